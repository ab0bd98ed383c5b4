-- The metal at first, laid net by net.
--     metal_to               the pins of the first nets, and nothing of the others
--     metal_none, metal_all  of no net, and of all
--     metal_more, metal_known
--                            of one more, which has its list
--     PinsLaid, pins_begun, pins_here, pins_few, pins_asked, pins_on, pins_done
--                            the loop that lays them
--     number_below           a net's number is at most 255
use Prim.Native.Nat.{ℕ, zero, suc, ◌+◌, ◌≤◌, ◌<◌}
use mathlib.Core.Path.{◌≡◌, refl, sym, ap, ◌∙◌}
use mathlib.Core.List.{List, [], ◌∷◌, ◌++◌, map, append_assoc}
use native.Mathlib.Omega.{arith}
use lib.ListN.{length, take, length-append}
use Rattle.bits.specs.Bits.{bits_of}
use Rattle.job.specs.Lists.{All}
use Rattle.job.specs.Grid.{Grid, vertices}
use Rattle.job.specs.Job.{Net, Job}
use Rattle.job.specs.Reading.{good, read_job}
use Rattle.job.specs.Structs.{grid_of}
use Rattle.job.specs.declared.grid.Grid.{Grid as GridStruct}
use Rattle.job.proofs.TwoWay.{rules_hold, net_at}
use Rattle.reader.specs.Loading.{net_loaded, pins_loaded}
use Rattle.reader.specs.declared.load.NetLoaded.{NetLoaded}
use Rattle.reader.proofs.Loaded.{first_net, all_below_lem}
use Rattle.rules.specs.Views.{pins_of}
use Rattle.rules.specs.Standings.{metal_at_first, more}
use Rattle.metal.specs.Codes.{lay_all, Codes, Beyond, Bare}
use Rattle.metal.specs.Jobs.{JobHeld}
use Rattle.metal.proofs.Slices.{beyond_refl, beyond_trans}
use Rattle.metal.proofs.Laid.{laid_beyond}
use Rattle.metal.proofs.Coded.{codes_laid, codes_bare}
use Rattle.metal.proofs.Nets.{NetHeld, net_held}

-- ---- the metal

-- the pins of so many nets, and nothing of the others
unfoldable pub metal_to : Grid → (done : ℕ) → List Net → List (List ℕ)
metal_to g done [] = []
metal_to g zero (net ∷ nets) = [] ∷ metal_to g zero nets
metal_to g (suc done) (net ∷ nets) = pins_of g net ∷ metal_to g done nets

module _ (g : Grid) where
  -- of no net
  metal_none : (nets : List Net) → All (λ m. m ≡ []) (metal_to g 0 nets)
  unfolding metal_to All
  metal_none [] = tt
  metal_none (net ∷ nets) = (refl, metal_none nets)

  -- of all nets
  metal_all : (nets : List Net) → metal_to g (length nets) nets ≡ map (pins_of g) nets
  unfolding metal_to
  metal_all [] = refl
  metal_all (net ∷ nets) = ap (λ (ms : List (List ℕ)). pins_of g net ∷ ms) (metal_all nets)

  -- each net has its list
  metal_length : (done : ℕ) (nets : List Net) → length (metal_to g done nets) ≡ length nets
  unfolding metal_to
  metal_length done [] = refl
  metal_length zero (net ∷ nets) = ap suc (metal_length zero nets)
  metal_length (suc done) (net ∷ nets) = ap suc (metal_length done nets)

  -- of one more
  metal_next : (before : List Net) (net : Net) (after : List Net)
      → more (length before) (pins_of g net) (metal_to g (length before) (before ++ (net ∷ after))) ≡ metal_to g (suc (length before)) (before ++ (net ∷ after))
  unfolding metal_to more
  metal_next [] net after = refl
  metal_next (x ∷ before) net after = ap (λ (ms : List (List ℕ)). pins_of g x ∷ ms) (metal_next before net after)

  module _ (nets before : List Net) (net : Net) (after : List Net) (split : nets ≡ before ++ (net ∷ after)) where
    -- of one more, among all
    metal_more : metal_to g (suc (length before)) nets ≡ more (length before) (pins_of g net) (metal_to g (length before) nets)
    metal_more = rw split (sym (metal_next before net after))

    -- it has its list
    metal_known : length before < length (metal_to g (length before) nets)
    metal_known =
        omega (arith, metal_length (length before) nets, ap (λ (l : List Net). length l) split, length-append before (net ∷ after))

-- with none after, all nets are before
all_before : {nets : List Net} (before after : List Net) → nets ≡ before ++ after → length after ≡ 0 → length before ≡ length nets
all_before before after split none = omega (arith, ap (λ (l : List Net). length l) split, length-append before after)

-- ---- the loop

-- the pins of the nets before are laid; a net's number is how many are
pub record PinsLaid (bytes : List ℕ) (g : Grid) (found : List ℕ) (held pins : List ℕ) (at net count : ℕ) : Type 0 where
  pub job : Job
  pub read : read_job bytes ≡ good job
  pub grid : job.grid ≡ g
  pub before : List Net
  pub after : List Net
  pub nets : job.nets ≡ before ++ after
  pub number : length before ≡ net
  pub rest : net + length after ≡ count
  pub position : net_at job (length before) ≡ at
  pub sixteen : length pins ≡ 16
  pub room : vertices g ≤ length found
  pub kept : Beyond (vertices g) held found
  pub codes : Bare (vertices g) found → Codes g (metal_to g (length before) job.nets) held

-- before the first
pub pins_begun : {bytes : List ℕ} {g : GridStruct} {count from : ℕ} {found pins : List ℕ} → JobHeld bytes g count from
    → vertices (grid_of g) ≤ length found → length pins ≡ 16 → PinsLaid bytes (grid_of g) found found pins from 0 count
pins_begun {g = g} {found = found} held long sixteen =
    record {
      job = held.job;
      read = held.read;
      grid = held.grid;
      before = [];
      after = held.job.nets;
      nets = refl;
      number = refl;
      rest = omega (arith, held.nets);
      position = first_net held.job ∙ held.from;
      sixteen = sixteen;
      room = long;
      kept = beyond_refl _ found;
      codes = λ bare. codes_bare (grid_of g) _ found (metal_none (grid_of g) held.job.nets) bare;
    }

module _ {bytes : List ℕ} {g : Grid} {found held pins : List ℕ} {at net count : ℕ} (so_far : PinsLaid bytes g found held pins at net count) where
  -- a net's number is at most 255
  pub number_below : net < count → net < 255
  number_below some =
      let all = (rules_hold bytes so_far.job so_far.read).nets in
      omega (arith, all, ap (λ (l : List Net). length l) so_far.nets, length-append so_far.before so_far.after, so_far.number, so_far.rest)

  module _ (some : net < count) where
    -- the net at hand, and those after it
    pub next : (n : Net) × (others : List Net) × (so_far.after ≡ n ∷ others)
    next = by so_far.after so_far.rest
      where
        by : (l : List Net) → net + length l ≡ count → (n : Net) × (others : List Net) × (l ≡ n ∷ others)
        by [] e = absurd (omega (arith, some, e))
        by (n ∷ others) e = (n, others, refl)

    -- it stands between the nets before and after
    split : so_far.job.nets ≡ so_far.before ++ (next.0 ∷ next.1)
    split = so_far.nets ∙ ap (λ (l : List Net). so_far.before ++ l) next.2

    -- it is loaded from its bit
    pub pins_here : NetHeld bytes g next.0 at (net_at so_far.job (suc (length so_far.before))) pins
    pins_here =
        net_held so_far.job so_far.before next.0 next.1 so_far.read split so_far.sixteen so_far.grid so_far.position

    -- it has at most sixteen pins
    pub pins_few : {loaded : NetLoaded} → loaded ≡ net_loaded (bits_of bytes) at → loaded.pins ≤ 16
    pins_few isLoaded = rw isLoaded pins_here.few

    -- they may be laid
    pub pins_asked : {loaded : NetLoaded} {pins' : List ℕ} → loaded ≡ net_loaded (bits_of bytes) at → pins' ≡ pins_loaded (bits_of bytes) g at pins
        → All (λ v. v < length held) (take loaded.pins pins')
    pins_asked isLoaded isPins =
        rw (isPins, isLoaded, pins_here.list) (all_below_lem (omega (arith, so_far.room, so_far.kept.size)) (pins_of g next.0) pins_here.below)

    -- its pins are laid
    pub pins_on : {loaded : NetLoaded} {pins' held' : List ℕ} → loaded ≡ net_loaded (bits_of bytes) at → pins' ≡ pins_loaded (bits_of bytes) g at pins
        → held' ≡ lay_all (net + 1) (take loaded.pins pins') held → PinsLaid bytes g found held' pins' loaded.next (net + 1) count
    pins_on {loaded} {pins'} {held'} isLoaded isPins is_held =
        record {
          job = so_far.job;
          read = so_far.read;
          grid = so_far.grid;
          before = so_far.before ++ (next.0 ∷ []);
          after = next.1;
          nets = split ∙ sym (append_assoc so_far.before (next.0 ∷ []) next.1);
          number = omega (arith, many, so_far.number);
          rest = omega (arith, so_far.rest, ap (λ (l : List Net). length l) next.2);
          position = rw (many, isLoaded) (sym pins_here.next);
          sixteen = rw isPins pins_here.sixteen;
          room = so_far.room;
          kept = rw laid (beyond_trans (laid_beyond (vertices g) (suc k) (pins_of g next.0) held pins_here.below) so_far.kept);
          codes = λ bare. rw (many, metal, laid) (codes_laid g (metal_to g k so_far.job.nets) k (pins_of g next.0) held known long pins_here.below (so_far.codes bare));
        }
      where
        k : ℕ
        k = length so_far.before

        many : length (so_far.before ++ (next.0 ∷ [])) ≡ suc (length so_far.before)
        many = omega (arith, length-append so_far.before (next.0 ∷ []))

        metal : metal_to g (suc k) so_far.job.nets ≡ more k (pins_of g next.0) (metal_to g k so_far.job.nets)
        metal = metal_more g so_far.job.nets so_far.before next.0 next.1 split

        known : k < length (metal_to g k so_far.job.nets)
        known = metal_known g so_far.job.nets so_far.before next.0 next.1 split

        laid : held' ≡ lay_all (suc k) (pins_of g next.0) held
        laid =
            let number : net + 1 ≡ suc k = omega (arith, so_far.number) in
            is_held ∙ rw (isPins, isLoaded, number, pins_here.list) refl

        long : vertices g ≤ length held
        long = omega (arith, so_far.room, so_far.kept.size)

  -- all are laid
  pub pins_done : count ≤ net → (j : Job) → read_job bytes ≡ good j → Bare (vertices g) found → Codes g (metal_at_first j) held
  unfolding metal_at_first
  pins_done none j read bare =
      let same : so_far.job ≡ j = cc so_far.read in
      let nets = all_before so_far.before so_far.after so_far.nets (omega (arith, so_far.rest)) in
      rw (← same, so_far.grid, ← metal_all g so_far.job.nets, ← nets) (so_far.codes bare)
