-- A net of one pin "writes no record, counts as fully joined and puts its pin on the map".
--     OnePin                          of a net
--     one_pin_joined                  it begins with no pin unjoined
--     one_pin-routed, one_pin_read    so routing writes no record, reading takes none, and both count it
--     one_pins_routed                 such nets alone: no record, the pins as metal, every net joined
--     one_pins_plan                   their plan has no bytes
use Prim.Native.Nat.{ℕ, suc, ◌+◌}
use mathlib.Core.Path.{◌≡◌, refl, ◌∙◌}
use mathlib.Core.List.{List, [], ◌∷◌, flat_map}
use native.Mathlib.Nat.{add-zero, zero-add}
use native.Mathlib.Omega.{arith}
use lib.ListN.{length}
use Rattle.bits.specs.Bits.{pack_bits, pack_to}
use Rattle.job.specs.Lists.{All}
use Rattle.job.specs.Grid.{Grid}
use Rattle.job.specs.Job.{Net, Job}
use Rattle.job.specs.Reading.{good}
use Rattle.rules.specs.Views.{pins_of}
use Rattle.rules.specs.Standings.{metal_at_first, begun}
use Rattle.rules.specs.Routings.{Totals, no_totals, with_net, route_net, route_nets, routing}
use Rattle.rules.proofs.Standing.{begun_metal}
use Rattle.rules.proofs.Routes.{route_all}
use Rattle.plan.specs.Layout.{plan_bytes, plan_of}
use Rattle.plan.specs.Reading.{read_net}
use Rattle.plan.proofs.Unjoined.{none_left, net_few}
use Rattle.plan.proofs.NetRead.{read_all}

abbrev pub OnePin : Net → Type 0
OnePin net = length net.pins ≡ 1

-- it begins with no pin unjoined
pub one_pin_joined : (g : Grid) (net : Net) → OnePin net → (metal : List (List ℕ)) → (begun (pins_of g net) metal).unjoined ≡ []
one_pin_joined g net one metal = none_left _ (omega (arith, one, net_few g net metal))

module _ (j : Job) (k n : ℕ) (net : Net) (one : OnePin net) (metal : List (List ℕ)) (totals : Totals) where
  -- so routing it writes no record
  pub one_pin-routed : route_net j k n (begun (pins_of j.grid net) metal) totals ≡ record { entries = []; metal = metal; totals = with_net totals }
  one_pin-routed =
      route_all j k n (begun (pins_of j.grid net) metal) totals (one_pin_joined j.grid net one metal)
      ∙ rw (begun_metal (pins_of j.grid net) metal) refl

  -- and reading its records reads no bit
  pub one_pin_read : (bits : List ℕ) (at : ℕ)
      → read_net bits j k n (begun (pins_of j.grid net) metal) totals at ≡ good (record { entries = []; metal = metal; totals = with_net totals; at = at })
  one_pin_read bits at =
      read_all bits j k n (begun (pins_of j.grid net) metal) totals at (one_pin_joined j.grid net one metal)
      ∙ rw (begun_metal (pins_of j.grid net) metal) refl

-- the totals with so many nets joined
abbrev with_nets : (n : ℕ) → Totals → Totals
with_nets n t = record { cost = t.cost; added = t.added; penalties = t.penalties; joined = t.joined + n }

-- such nets, one after the other
one_pins_nets : (j : Job) (k : ℕ) (nets : List Net) (metal : List (List ℕ)) (totals : Totals) → All OnePin nets
    → route_nets j k nets metal totals ≡ record { entries = []; metal = metal; totals = with_nets (length nets) totals }
unfolding route_nets All with_net
one_pins_nets j k [] metal totals h = rw (add-zero totals.joined) refl
one_pins_nets j k (net ∷ nets) metal totals h =
    let one_more : suc totals.joined + length nets ≡ totals.joined + suc (length nets) = omega arith in
    rw (one_pin-routed j k (length (pins_of j.grid net)) net h.0 metal totals, one_pins_nets j (suc k) nets metal (with_net totals) h.1, one_more) refl

module _ (j : Job) (h : All OnePin j.nets) where
  -- no entry, the pins as metal, and all nets joined
  pub one_pins_routed : routing j
      ≡ record { entries = []; metal = metal_at_first j; totals = record { cost = 0; added = 0; penalties = 0; joined = length j.nets } }
  unfolding routing no_totals
  one_pins_routed = one_pins_nets j 0 j.nets (metal_at_first j) no_totals h ∙ rw (zero-add (length j.nets)) refl

  -- and no bytes
  pub one_pins_plan : plan_of j ≡ []
  unfolding plan_of plan_bytes pack_bits pack_to flat_map
  one_pins_plan = rw one_pins_routed refl
