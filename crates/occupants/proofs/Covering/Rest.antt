-- Reading in parts: how many were read, and what comes after the head and the layer lines.
--     then_bind, then_assoc       readings one after the other
--     many_length, nets_length    as many are read as were asked for
--     read_rest, rest_of_job      obstacles, nets and tail, and a job's bits read up to there and then the
--                                 rest
use Prim.Native.Nat.{ℕ, zero, suc, ◌+◌}
use mathlib.Core.Path.{◌≡◌, refl, ap}
use mathlib.Core.List.{List, [], ◌∷◌, ◌++◌}
use lib.ListN.{length}
use Rattle.job.specs.Grid.{Grid, Vertex}
use Rattle.job.specs.Job.{Obstacle, Net}
use Rattle.job.specs.Reading.{Read, refused, good, ◌>>=◌, ◌>>◌, Head, read_layer, read_many, read_obstacle, read_net, net_width, read_nets}
use Rattle.job.proofs.Binds.{bind_good}
use Rattle.job.specs.Reading.{nets_width, read_tail, obstacles_at, nets_at, read_after_head}

module _ {A B : Type 0} where
  -- what is read and not looked at
  pub then_bind : (read : Read A) (rest : Read B) → ◌>>◌ read rest ≡ ◌>>=◌ read (λ a. rest)
  unfolding ◌>>=◌ ◌>>◌
  then_bind (refused n p) rest = refl
  then_bind (good a) rest = refl

  -- two rules before a reading
  pub then_assoc : {C : Type 0} (first : Read C) (read : Read A) (rest : Read B) → ◌>>◌ (◌>>◌ first read) rest ≡ ◌>>◌ first (◌>>◌ read rest)
  unfolding ◌>>◌
  then_assoc (refused n p) read rest = refl
  then_assoc (good c) read rest = refl

  -- three parts in a row are the first and then the other two
  bind_assoc : {C : Type 0} (read : Read A) (rest : A → Read B) (last : B → Read C)
      → ◌>>=◌ (◌>>=◌ read rest) last ≡ ◌>>=◌ read (λ a. ◌>>=◌ (rest a) last)
  unfolding ◌>>=◌
  bind_assoc (refused n p) rest last = refl
  bind_assoc (good a) rest last = refl

-- as many groups are read as were asked for
pub many_length : {A : Type 0} (width : ℕ) (read : (after at : ℕ) → Read A) (n at : ℕ) (xs : List A)
    → read_many width read n at ≡ good xs → length xs ≡ n
unfolding read_many
many_length width read zero at xs e = let none : xs ≡ [] = cc in rw none
many_length {A} width read (suc n) at xs e =
    let first = (bind_good (read n at) _ xs).0 e in
    let others = (bind_good (read_many width read n (at + width)) (λ (ys : List A). good (first.0 ∷ ys)) xs).0 first.2 in
    let whole : xs ≡ first.0 ∷ others.0 = cc in
    rw whole (ap suc (many_length width read n (at + width) others.0 others.1))

-- as many nets are read as were asked for
pub nets_length : (bits : List ℕ) (g : Grid) (obstacles : List Obstacle) (earlier : List Vertex) (n at : ℕ) (nets : List Net)
    → read_nets bits g obstacles earlier n at ≡ good nets → length nets ≡ n
unfolding read_nets
nets_length bits g obstacles earlier zero at nets e = let none : nets ≡ [] = cc in rw none
nets_length bits g obstacles earlier (suc n) at nets e =
    let first = (bind_good (read_net bits g obstacles earlier at) _ nets).0 e in
    let net = first.0 in
    let more = read_nets bits g obstacles (net.pins ++ earlier) n (at + net_width net) in
    let others = (bind_good more (λ (ns : List Net). good (net ∷ ns)) nets).0 first.2 in
    let whole : nets ≡ first.0 ∷ others.0 = cc in
    rw whole (ap suc (nets_length bits g obstacles (net.pins ++ earlier) n (at + net_width net) others.0 others.1))

-- obstacles, nets and tail of a job, after the head and the layer lines
unfoldable pub read_rest : (bits : List ℕ) → Head → Read (List Obstacle × List Net)
read_rest bits head = do
  obstacles ← read_many 27 (read_obstacle bits head.grid) head.obstacles (obstacles_at head)
  nets ← read_nets bits head.grid obstacles [] head.nets (nets_at head)
  read_tail bits (nets_at head + nets_width nets)
  good (obstacles, nets)

-- after the head come the layer lines, and then the rest
pub rest_of_job : (bits : List ℕ) (head : Head) → read_after_head bits head ≡ do
  lines ← read_many 40 (read_layer bits) head.grid.layers 80
  rest ← read_rest bits head
  good (record {
    grid = head.grid;
    guide = head.guide;
    short = head.short;
    lines = lines;
    obstacles = rest.0;
    nets = rest.1;
  })
unfolding read_after_head read_rest
rest_of_job bits head = simp (then_bind, bind_assoc) (unfold ◌>>=◌ in refl)
