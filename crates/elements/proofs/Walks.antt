-- Laws of walks over any turn: how one goes on and splits, when turns enough come to a stop, and when two walks go alike.
use Prim.Native.Nat.{ℕ, zero, suc, ◌+◌, ◌<◌}
use mathlib.Core.Path.{◌≡◌, refl, ap, ◌∙◌, subst}
use mathlib.Core.List.{List, [], ◌∷◌, ◌++◌}
use mathlib.Core.Option.{some, none}
use native.Mathlib.Omega.{arith}
use native.Mathlib.Nat.{zero-add, suc-add}
use lib.ListN.{length}
use Rattle.elements.specs.Walk.{Stop, Seen, Turn, goes, stops, Walk, standing, behind, onward, walk, Path}

module _ {X : Type 0} (turn : X → Turn X) where
  pub walk_none : (x : X) → walk turn 0 x ≡ standing x none
  unfolding walk
  walk_none x = refl

  pub walk_goes : (k : ℕ) (x y : X) (p : Seen) → turn x ≡ goes p y → walk turn (suc k) x ≡ behind (p ∷ []) (walk turn k y)
  unfolding walk
  walk_goes k x y p e = rw e refl

  pub walk_stops : (k : ℕ) (x : X) (e : Stop) → turn x ≡ stops e → walk turn (suc k) x ≡ standing x (some e)
  unfolding walk
  walk_stops k x e h = rw h refl

  -- What is met is a way, and what stops a walk stops the spot behind it.
  pub walk_path : (k : ℕ) (x : X) → Path turn x (walk turn k x).seen (walk turn k x).spot
  unfolding walk
  walk_path zero x = refl
  walk_path (suc k) x = go (turn x) refl (λ y. walk_path k y)
    where
      go : (t : Turn X) → turn x ≡ t → ((y : X) → Path turn y (walk turn k y).seen (walk turn k y).spot)
          → Path turn x (onward x t (walk turn k)).seen (onward x t (walk turn k)).spot
      go (stops e) h again = refl
      go (goes p y) h again = (y, h, again y)

  pub walk_at_stop : (k : ℕ) (x : X) (e : Stop) → (walk turn k x).stop ≡ some e → turn (walk turn k x).spot ≡ stops e
  unfolding walk
  walk_at_stop zero x e h = absurd (let z : ◌≡◌ {A = ℕ} 0 1 = cc in omega arith)
  walk_at_stop (suc k) x e h = go (turn x) refl h (λ y. walk_at_stop k y e)
    where
      go : (t : Turn X) → turn x ≡ t → (onward x t (walk turn k)).stop ≡ some e → ((y : X) → (walk turn k y).stop ≡ some e → turn (walk turn k y).spot ≡ stops e)
          → turn (onward x t (walk turn k)).spot ≡ stops e
      go (stops d) q h again = let same : d ≡ e = cc in q ∙ ap (λ (c : Stop). stops c) same
      go (goes p y) q h again = again y h

  -- A walk begins with every way from its spot.
  pub path_walk : (ps : List Seen) (k : ℕ) (x y : X) → Path turn x ps y → walk turn (length ps + k) x ≡ behind ps (walk turn k y)
  path_walk [] k x y h = rw (zero-add k, h) refl
  path_walk (p ∷ ps) k x y h = rw (suc-add (length ps) k) (walk_goes (length ps + k) x h.0 p h.1 ∙ ap (behind (p ∷ [])) (path_walk ps k h.0 y h.2))

  pub path_split : (ps qs : List Seen) (x y : X) → Path turn x (ps ++ qs) y → (z : X) × Path turn x ps z × Path turn z qs y
  path_split [] qs x y h = (x, refl, h)
  path_split (p ∷ ps) qs x y h = let t = path_split ps qs h.0 y h.2 in (t.0, (h.0, h.1, t.1), t.2)

  pub path_join : (ps qs : List Seen) (x z y : X) → Path turn x ps z → Path turn z qs y → Path turn x (ps ++ qs) y
  path_join [] qs x z y h g = rw h g
  path_join (p ∷ ps) qs x z y h g = (h.0, h.1, path_join ps qs h.0 z y h.2 g)

  pub path_one : (p : Seen) (x y : X) → turn x ≡ goes p y → Path turn x (p ∷ []) y
  path_one p x y h = (y, h, refl)

  -- Where each turn leaves less to do, turns enough come to a stop, and more of them change nothing.
  module _ (left : X → ℕ) (less : (x y : X) (p : Seen) → turn x ≡ goes p y → left y < left x) where
    pub walk_enough : (j k : ℕ) (x : X) → left x < j → left x < k → walk turn j x ≡ walk turn k x
    unfolding walk
    walk_enough zero k x a b = absurd (omega arith)
    walk_enough (suc j) zero x a b = absurd (omega arith)
    walk_enough (suc j) (suc k) x a b = go (turn x) refl (λ y. walk_enough j k y)
      where
        go : (t : Turn X) → turn x ≡ t → ((y : X) → left y < j → left y < k → walk turn j y ≡ walk turn k y)
            → onward x t (walk turn j) ≡ onward x t (walk turn k)
        go (stops e) h again = refl
        go (goes p y) h again = let l = less x y p h in ap (behind (p ∷ [])) (again y (omega arith) (omega arith))

    pub walk_comes : (k : ℕ) (x : X) → left x < k → (e : Stop) × ((walk turn k x).stop ≡ some e)
    unfolding walk
    walk_comes zero x a = absurd (omega arith)
    walk_comes (suc k) x a = go (turn x) refl (λ y. walk_comes k y)
      where
        go : (t : Turn X) → turn x ≡ t → ((y : X) → left y < k → (e : Stop) × ((walk turn k y).stop ≡ some e))
            → (e : Stop) × ((onward x t (walk turn k)).stop ≡ some e)
        go (stops e) h again = (e, refl)
        go (goes p y) h again = let l = less x y p h in again y (omega arith)

    -- So, with turns enough from every spot, a walk goes on by a way, and splits at every item that it met.
    module _ (k : ℕ) (enough : (x : X) → left x < k) where
      pub whole_path : (ps : List Seen) (x y : X) → Path turn x ps y → walk turn k x ≡ behind ps (walk turn k y)
      whole_path ps x y h = walk_enough k (length ps + k) x (enough x) (omega (arith, enough x)) ∙ path_walk ps k x y h

      pub whole_split : (ps qs : List Seen) (x : X) → (walk turn k x).seen ≡ ps ++ qs → (z : X) × Path turn x ps z × (walk turn k x ≡ behind ps (walk turn k z))
      whole_split ps qs x e =
          let t = path_split ps qs x (walk turn k x).spot (subst (λ (xs : List Seen). Path turn x xs (walk turn k x).spot) e (walk_path k x)) in
          (t.0, t.1, whole_path ps x t.0 t.1)

      pub whole_stops : (x : X) (e : Stop) → turn x ≡ stops e → walk turn k x ≡ standing x (some e)
      whole_stops x e h = walk_enough k (suc k) x (enough x) (omega (arith, enough x)) ∙ walk_stops k x e h

-- Two turns that tell the same of spots that belong together, and lead to such spots.
module _ {X Y : Type 0} (f : X → Turn X) (g : Y → Turn Y) (R : X → Y → Type 0) where
  abbrev pub Agree : Turn X → Turn Y → Type 0
  Agree (goes p x) (goes q y) = (p ≡ q) × R x y
  Agree (goes p x) (stops e) = ⊥
  Agree (stops e) (goes p x) = ⊥
  Agree (stops e) (stops d) = e ≡ d

  pub record Alike (v : Walk X) (w : Walk Y) : Type 0 where
    pub seen : v.seen ≡ w.seen
    pub stop : v.stop ≡ w.stop
    pub spot : R v.spot w.spot

  pub walk_alike : ((x : X) (y : Y) → R x y → Agree (f x) (g y)) → (k : ℕ) (x : X) (y : Y) → R x y → Alike (walk f k x) (walk g k y)
  unfolding walk
  walk_alike agree zero x y r = record { seen = refl; stop = refl; spot = r }
  walk_alike agree (suc k) x y r = go (f x) (g y) (agree x y r) (λ a b. walk_alike agree k a b)
    where
      go : (t : Turn X) (u : Turn Y) → Agree t u → ((a : X) (b : Y) → R a b → Alike (walk f k a) (walk g k b))
          → Alike (onward x t (walk f k)) (onward y u (walk g k))
      go (goes p a) (goes q b) h again =
          let w = again a b h.1 in
          record { seen = rw (h.0, w.seen) refl; stop = w.stop; spot = w.spot }
      go (goes p a) (stops e) h again = absurd h
      go (stops e) (goes q b) h again = absurd h
      go (stops e) (stops d) h again = record { seen = refl; stop = ap some h; spot = r }
