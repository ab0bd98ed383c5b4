-- A plan of routing has at most so many bytes.
--     plan_fits     the law
use Prim.Native.Nat.{ℕ, ◌+◌, ◌-◌, ◌*◌, ◌≤◌, ◌<◌}
use native.Mathlib.Nat.{add-mul}
use native.Mathlib.Omega.{arith}
use mathlib.Core.Path.{◌≡◌, refl, sym, ap, ◌∙◌}
use mathlib.Core.List.{List, [], ◌∷◌, ◌++◌, flat_map}
use lib.ListN.{length, length-append}
use Rattle.bits.proofs.Laws.{length-field_bits, length-pack_bits}
use Rattle.job.specs.Lists.{All}
use Rattle.job.specs.Job.{Net, Job}
use Rattle.job.specs.Good.{GoodJob}
use Rattle.rules.specs.Views.{pins_of}
use Rattle.rules.specs.Prices.{tech_of}
use Rattle.rules.specs.Joins.{Record, join, none, places}
use Rattle.rules.specs.Standings.{Standing, begun}
use Rattle.rules.specs.Apart.{Stands}
use Rattle.rules.specs.Routings.{Entry}
use Rattle.rules.proofs.Techs.{good_tech}
use Rattle.rules.proofs.Joins.{join_short}
use Rattle.rules.proofs.Standing.{nets_apart}
use Rattle.rules.proofs.Entries.{Written, all_written}
use Rattle.plan.specs.Layout.{record_bits, plan_bytes, plan_of}
use Rattle.plan.specs.Entries.{entry_bits}
use Rattle.plan.specs.Legal.{NetEntries, all_joined, gave_up, joins, JobEntries, no_nets, next_net}
use Rattle.plan.specs.Sizes.{most_joins, most_bytes}
use Rattle.plan.proofs.Unjoined.{net_few}
use Rattle.plan.proofs.JoinRead.{length_join}
use Rattle.plan.proofs.Entries.{all_both, entries_append, length_record, legal_apart, legal_fewer}
use Rattle.plan.proofs.Routed.{routing_entries}

-- so many of a size, and one more
one_more : (b : ℕ) {m n : ℕ} → m < n → b + m * b ≤ n * b
one_more b {m} {n} h =
    let rest : n ≡ (1 + m) + (n - (1 + m)) = omega arith in
    rw (rest, add-mul (1 + m) (n - (1 + m)) b, add-mul 1 m b) (omega arith)

module _ {j : Job} (good-j : GoodJob j) where
  -- the bits of a record at most
  size : ℕ
  size = 2 * places (tech_of j) + 78

  abbrev bits : List Entry → ℕ
  bits es = length (entry_bits j.grid es)

  -- a record that routing writes, before others
  record_size : (e : Entry) (es : List Entry) → Written j e → bits (e ∷ es) ≤ size + bits es
  unfolding size flat_map record_bits
  record_size e es w = by e.written refl
    where
      by : (r : Record) → e.written ≡ r → length (record_bits j.grid e.written ++ entry_bits j.grid es) ≤ 2 * places (tech_of j) + 78 + bits es
      by none is = rw is (omega (arith, length-append (record_bits j.grid none) (entry_bits j.grid es), length-field_bits 1 0))
      by (join start moves cost) is =
          let short = join_short (good_tech good-j) _ w.apart (sym w.is ∙ is) in
          rw is (omega (arith, short, length_record j.grid start moves cost (entry_bits j.grid es), length_join j.grid start moves cost))

  -- the records of a net: each join leaves fewer pins unjoined
  net_size : {k : ℕ} {s : Standing} {es : List Entry} {metal : List (List ℕ)} → NetEntries j k s es metal → Stands (tech_of j) s → All (Written j) es
      → bits es ≤ length s.unjoined * size
  unfolding All flat_map
  net_size (all_joined all left) apart h = omega arith
  net_size (gave_up {s = s} {e = e} some is left) apart h = by s.unjoined some (record_size e [] h.0)
    where
      by : (u : List ℕ) → (u ≡ [] → ⊥) → bits (e ∷ []) ≤ size + 0 → bits (e ∷ []) ≤ length u * size
      by [] some few = absurd (some refl)
      by (x ∷ xs) some few =
          let all : size + length xs * size ≤ length (x ∷ xs) * size = one_more size (omega arith) in
          omega (arith, few, all)
  net_size (joins {s = s} {after = after} {e = e} {es = es} l is rest) apart h =
      let one = record_size e es h.0 in
      let others = net_size rest (legal_apart good-j _ s apart l) h.1 in
      let all = one_more size (legal_fewer good-j _ s apart l) in
      omega (arith, one, others, all)

  -- the records of all nets
  nets_size : {k : ℕ} {nets : List Net} {metal : List (List ℕ)} {es : List Entry} → JobEntries j k nets metal es
      → All (λ net. (m : List (List ℕ)) → Stands (tech_of j) (begun (pins_of j.grid net) m)) nets → All (Written j) es
      → bits es ≤ most_joins nets * size
  unfolding most_joins All flat_map
  nets_size no_nets apart h = omega arith
  nets_size (next_net {net = net} {nets = nets} {metal = metal} {own = own} {others = others} n r is) apart h =
      let (mine, theirs) = all_both (Written j) own others (rw is at h) in
      let one = net_size n (apart.0 metal) mine in
      let rest = nets_size r apart.1 theirs in
      let pins = length net.pins - 1 in
      rw (is, entries_append j.grid own others, add-mul pins (most_joins nets) size)
      (omega (arith, one, rest, ap (λ (x : ℕ). x * size) (net_few j.grid net metal), length-append (entry_bits j.grid own) (entry_bits j.grid others)))

  -- the plan that routing makes of a good job has at most so many bytes
  pub plan_fits : length (plan_of j) ≤ most_bytes j
  unfolding plan_of plan_bytes most_bytes size
  plan_fits =
      let few = nets_size (routing_entries good-j).entries (nets_apart good-j) (all_written good-j) in
      rw length-pack_bits (omega (arith, few))
