-- Laws of the shape of a pluck.
use mathlib.Core.Path.{◌≡◌, refl, sym, ap, ◌∙◌, subst}
use mathlib.Core.Bool.{Bool, true, false, true≢false, ◌&&◌, cond, and-false}
use mathlib.Core.List.{List}
use Prim.Native.Nat.{ℕ, zero, suc, ◌+◌, ◌-◌, ◌≤◌, ◌<◌}
use native.Mathlib.Omega.{arith}
use borrow.Author.Tests.{ltb-true, leb-true, leb-false, lt-ltb, le-ltb, le-leb, lt-leb}
use lib.Dec.{leb, ltb}
use lib.IntN.{ℤ, pos}
use lib.ListN.{length, set, length-set, replicate, length-replicate}
use lib.Seq.{get_or-set_same, get_or-set_other}
use Rattle.scheme.specs.Lists.{tabulate, point}
use Rattle.scheme.specs.Pluck.{distance_from, pluck_value}
use Rattle.scheme.proofs.Laws.Bools.{cases, and_yes, and_no}
use Rattle.scheme.proofs.Laws.Lists.{is_tabulate}
use Rattle.kinds.specs.Runs.{in_run, apart}
use Rattle.kinds.proofs.RoundLaws.{gap}
use Rattle.pluck.specs.declared.shape.Shape.{Shape}
use Rattle.pluck.specs.Shapes.{shape_at, put_at, put_left, put_both, Raised}

-- ---- a point

module _ (s : Shape) (i : ℕ) where
  abbrev away : ℕ
  away = distance_from s.centre i

  abbrev value : ℤ
  value = pluck_value s.table.entries.now s.width s.height away

  at : {t : Bool} → (in_run s.run i && leb away s.width) ≡ t → shape_at s i ≡ cond t value (pos 0)
  unfolding shape_at
  at e = ap (λ (t : Bool). cond t value (pos 0)) e

  before-run : i < s.run.from → pos 0 ≡ shape_at s i
  before-run h = sym (at (and_no _ (and_no _ (lt-leb s.run.from i h))))

  after_run : s.run.to ≤ i → pos 0 ≡ shape_at s i
  after_run h =
      let out = ap (λ (t : Bool). leb s.run.from i && t) (le-ltb i s.run.to h) ∙ and-false (leb s.run.from i) in
      sym (at (and_no _ out))

  beyond_width : s.width < away → pos 0 ≡ shape_at s i
  beyond_width h =
      let out = ap (λ (t : Bool). in_run s.run i && t) (lt-leb away s.width h) ∙ and-false (in_run s.run i) in
      sym (at out)

  in_shape : s.run.from ≤ i → i < s.run.to → away ≤ s.width → value ≡ shape_at s i
  in_shape a b d =
      let inside = and_yes (le-leb s.run.from i a) ∙ lt-ltb i s.run.to b in
      sym (at (and_yes inside ∙ le-leb away s.width d))

-- ---- a level, distance by distance

pub put_yes : (t : Bool) (j : ℕ) (v : ℤ) (xs : List ℤ) → t ≡ true → set xs j v ≡ put_at t j v xs
unfolding put_at
put_yes t j v xs e = ap (λ (b : Bool). cond b (set xs j v) xs) (sym e)

pub put_no : (t : Bool) (j : ℕ) (v : ℤ) (xs : List ℤ) → t ≡ false → xs ≡ put_at t j v xs
unfolding put_at
put_no t j v xs e = ap (λ (b : Bool). cond b (set xs j v) xs) (sym e)

pub length_put : (t : Bool) (j : ℕ) (v : ℤ) (xs : List ℤ) → length (put_at t j v xs) ≡ length xs
unfolding put_at
length_put true j v xs = length-set xs j v
length_put false j v xs = refl

-- a point that is not the one put
put_other : (t : Bool) (j : ℕ) (v : ℤ) (xs : List ℤ) (i : ℕ) → (t ≡ true → i ≡ j → ⊥) → point (put_at t j v xs) i ≡ point xs i
unfolding put_at
put_other true j v xs i h = get_or-set_other xs j i v (pos 0) (h refl)
put_other false j v xs i h = refl

put_here : (t : Bool) (j : ℕ) (v : ℤ) (xs : List ℤ) (i : ℕ) → i ≡ j → t ≡ true → i < length xs → point (put_at t j v xs) i ≡ v
unfolding put_at
put_here true j v xs i e h l = ap (point (set xs j v)) e ∙ get_or-set_same xs j v (pos 0) (omega arith)
put_here false j v xs i e h l = absurd (true≢false (sym h))

-- one of the two
either : {A : Type 0} (a b : ℕ) → (a ≤ b → A) → (b < a → A) → A
either {A} a b y n = cases (λ t. A) (leb a b) (λ q. y (leb-true a b q)) (λ q. n (leb-false a b q))

zeros : (n i : ℕ) → point (replicate n (pos 0)) i ≡ pos 0
zeros zero i = refl
zeros (suc n) zero = refl
zeros (suc n) (suc i) = zeros n i

module _ (s : Shape) (n : ℕ) where
  abbrev Rising : List ℤ → ℕ → Type 0
  Rising xs k = Raised n s.centre (shape_at s) xs k

  pub raised_none : {xs : List ℤ} → xs ≡ replicate n (pos 0) → Rising xs 0
  raised_none {xs} e = record {
    long = ap length e ∙ length-replicate n (pos 0);
    near = λ i l h. absurd (omega arith);
    far = λ i h. ap (λ (ys : List ℤ). point ys i) e ∙ zeros n i;
  }

  pub raised_all : {xs : List ℤ} {k : ℕ} → s.width < k → Rising xs k → xs ≡ tabulate n (shape_at s)
  raised_all {xs} {k} h m = is_tabulate n (shape_at s) (pos 0) xs m.long
      (λ i l. either k (distance_from s.centre i) (λ p. m.far i p ∙ beyond_width s i (omega arith)) (λ p. m.near i l p))

  -- both points at distance k
  module _ (xs : List ℤ) (k : ℕ) (v : ℤ) (m : Rising xs k) where
    abbrev c : ℕ
    c = s.centre

    abbrev on_left : ℕ
    on_left = c - s.run.from

    abbrev on_right : ℕ
    on_right = s.run.to - c

    abbrev left : List ℤ
    left = put_left s k v xs

    abbrev both : List ℤ
    both = put_both s k v xs

    same : (i : ℕ) → (leb k on_left ≡ true → i ≡ c - k → ⊥) → (ltb k on_right ≡ true → i ≡ c + k → ⊥) → point both i ≡ point xs i
    same i a b = put_other (ltb k on_right) (c + k) v left i b ∙ put_other (leb k on_left) (c - k) v xs i a

    -- a point at another distance
    other : (i : ℕ) → (distance_from c i ≡ k → ⊥) → point both i ≡ point xs i
    other i h = same i (λ t e. h (gap i c ∙ omega (arith, leb-true k on_left t))) (λ t e. h (gap i c ∙ omega arith))

    module _ (i : ℕ) (in_level : i < n) (e : distance_from c i ≡ k) where
      apart_is : apart i c ≡ k
      apart_is = sym (gap i c) ∙ e

      -- one that does not move
      out : (s.run.from ≤ i → s.run.to ≤ i) → point both i ≡ pos 0
      out h =
          let starts = s.starts in
          let ends = s.ends in
          same i
          (λ t q. let l = leb-true k on_left t in let p : s.run.from ≤ i = omega arith in omega (arith, h p))
          (λ t q. let l = ltb-true k on_right t in let p : s.run.from ≤ i = omega arith in omega (arith, h p)) ∙
          m.far i (omega arith)

      -- one that moves
      put_in : s.run.from ≤ i → i < s.run.to → point both i ≡ v
      put_in a b =
          let d = apart_is in
          let l = m.long in
          let before : c ≤ i → point both i ≡ v = λ p. put_here (ltb k on_right) (c + k) v left i (omega arith)
          (lt-ltb k on_right (omega arith)) (omega (arith, length_put (leb k on_left) (c - k) v xs)) in
          let after : i < c → point both i ≡ v = λ p. put_other (ltb k on_right) (c + k) v left i (λ t q. omega arith) ∙
          put_here (leb k on_left) (c - k) v xs i (omega arith) (le-leb k on_left (omega arith)) (omega arith) in
          either c i before after

      at-distance : k ≤ s.width → v ≡ pluck_value s.table.entries.now s.width s.height k → point both i ≡ shape_at s i
      at-distance w g =
          let v-is = g ∙ ap (λ (d : ℕ). pluck_value s.table.entries.now s.width s.height d) (sym e) in
          either s.run.from i
          (λ a. either s.run.to i (λ b. out (λ p. b) ∙ after_run s i b)
          (λ b. put_in a b ∙ v-is ∙ in_shape s i a b (omega (arith, e))))
          (λ a. out (λ p. absurd (omega arith)) ∙ before-run s i a)

    raised_more : k ≤ s.width → v ≡ pluck_value s.table.entries.now s.width s.height k → Rising both (k + 1)
    raised_more w g = record {
      long = length_put (ltb k on_right) (c + k) v left ∙ length_put (leb k on_left) (c - k) v xs ∙ m.long;
      near = λ i l h. either k (distance_from c i) (λ p. at-distance i l (omega arith) w g)
          (λ p. other i (λ q. omega arith) ∙ m.near i l p);
      far = λ i h. other i (λ q. omega arith) ∙ m.far i (omega arith);
    }

  -- the same of what a call left
  pub raised_put : {xs ys : List ℤ} {k : ℕ} {v : ℤ} → Rising xs k → k ≤ s.width → v ≡ pluck_value s.table.entries.now s.width s.height k
      → ys ≡ put_both s k v xs → Rising ys (k + 1)
  raised_put {xs} {ys} {k} {v} m w g e = subst (λ (zs : List ℤ). Rising zs (k + 1)) (sym e) (raised_more xs k v m w g)
