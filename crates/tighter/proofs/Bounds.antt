-- The bounds on Σ of every list of calls: each from a form that the steps of an instrument do not raise.
use mathlib.Core.Path.{◌≡◌, refl, sym, ap, ◌∙◌, subst, subst₂}
use mathlib.Core.List.{List}
use Prim.Native.Nat.{ℕ, zero, suc, ◌+◌, ◌*◌, ◌^◌, ◌≤◌, ◌<◌}
use native.Mathlib.Nat as N
use native.Mathlib.Omega.{arith}
use lib.IntN.{ℤ, pos, ◌+ℤ◌, ◌-ℤ◌, ◌*ℤ◌, zero-*ℤ}
use Rattle.integers.proofs.Ring.{#◌, ◌⊕◌, ◌⊖◌, ◌⊗◌, ◌², ◌≈◌, ring}
use Rattle.integers.proofs.Order.{◌⩽◌, 0≤pos, 0<pos, pos≤, pos<, *ℤ_mono_r, *ℤ_cancel, mul-positive, ≡-≤ℤ, ≤ℤ-≡}
use Rattle.integers.proofs.Order.{≤ℤ_trans}
use Rattle.integers.proofs.Lin.{◌⊴◌, ◌*≤◌, ◌*⊴◌, ◌⇒◌, ⊩◌, lin}
use Rattle.forms.proofs.Level.{Level, ◌⊞◌, ◌⊡◌, zeros, Still, still-zeros, still-add, still-scale}
use Rattle.types.specs.declared.Instrument.{Instrument}
use Rattle.types.specs.Numbers.{D}
use Rattle.scheme.specs.Lists.{point, square}
use Rattle.scheme.specs.Instruments.{points, moving}
use Rattle.scheme.specs.Step.{divisor}
use Rattle.scheme.specs.Book.{LastStep, Book, scale, State, start, calls}
use Rattle.scheme.specs.Claims.{distance}
use Rattle.scheme.specs.Passing.{InstrumentPasses}
use Rattle.scheme.proofs.Theorems.Forms.{weighed, weighed_form, weighed_nonneg, squares_are}
use Rattle.scheme.proofs.Theorems.Instance.{free_step, free_still}
use Rattle.scheme.proofs.Theorems.Distance.{gap, OfErrors, StepsKeep, Beside, Invariant, agrees, stepping, list_invariant}
use Rattle.tighter.specs.Bounds.{Holding, linear_by, for_ever_by, heavy_loss_by, lossLinear, numbers}
use Rattle.tighter.specs.Claims.{OfSteps, After, OfEveryList, OfSums}
use Rattle.tighter.proofs.Lyapunov.{Lyapunov, Fading, Grown, grow_start, grow_step, grow_bound, Faded, fade_start, fade_step}
use Rattle.tighter.proofs.Lyapunov.{fade_bound}
use Rattle.tighter.proofs.Loss.{by_energy, by_light_loss, light_fading, by_loss, heavy_fading}
use Rattle.tighter.proofs.Holding.{Holds, lossy, held}

-- ---- from what the steps keep to every list of calls

module _ (C : OfSteps) (P : OfErrors) (kept : StepsKeep P)
    (each : (i : Instrument) (older newer : List ℤ) (b : Book) → Beside P kept i older newer b → C i b.n newer b.newer) where
  after : (t : State) → Invariant P kept t → After C t.newer t.book.n t.book.newer t.book.last
  after t (agrees e) = subst (λ (b : Book). After C t.newer b.n b.newer b.last) (sym e) refl
  after t (stepping m e s) =
      subst₂ (λ (n : ℕ) (l : LastStep). After C t.newer n t.book.newer l) (sym e) (sym s.last) (
        s.long,
        subst (λ (n : ℕ). C s.instrument n t.newer t.book.newer) e
            (each s.instrument t.older t.newer t.book s.beside),
      )

  of_every_list : OfEveryList C
  of_every_list older newer ks = after (calls ks (start older newer)).state (list_invariant P kept older newer ks)

-- ---- what the steps of an instrument keep, with what they keep of its errors

abbrev two_n : Instrument → ℤ
two_n i = pos (2 * points i.grid)

abbrev d : Instrument → ℤ
d i = pos (divisor i.settings)

-- it holds before the first step, and a step keeps it, whatever r it rounds off
record Steady (i : Instrument) (Q : (n : ℕ) (p : ℤ) (X Y : Level) → Type 0) : Type 0 where
  first : (p : ℤ) → Q 0 p zeros zeros
  next : (n : ℕ) (p : ℤ) (X Y r : Level) → Still (moving i.grid) X → Still (moving i.grid) Y → Still (moving i.grid) r
      → pos 4 *ℤ weighed i.grid r r ⩽ two_n i *ℤ (d i *ℤ d i) → Q n p X Y → Q (suc n) (p *ℤ d i) (free_step i X Y ⊞ (p ⊡ r)) (d i ⊡ X)

-- of the instruments of a case
module _ (Case : Instrument → Type 0) (Q : (i : Instrument) → InstrumentPasses i → Case i → (n : ℕ) (p : ℤ) (X Y : Level) → Type 0)
    (steady : (i : Instrument) (ok : InstrumentPasses i) (c : Case i) → Steady i (Q i ok c)) where
  record Errors (i : Instrument) (ok : InstrumentPasses i) (n : ℕ) (p : ℤ) (X Y : Level) : Type 0 where
    X_still : Still (moving i.grid) X
    Y_still : Still (moving i.grid) Y
    errors : (c : Case i) → Q i ok c n p X Y

  errors_kept : StepsKeep Errors
  errors_kept = record {
    first = λ i ok p. record { X_still = still-zeros; Y_still = still-zeros; errors = λ c. (steady i ok c).first p };
    next = λ i ok n p X Y r now r-still r_small. record {
      X_still = still-add (free_still i X Y) (still-scale p r-still);
      Y_still = still-scale (d i) now.X_still;
      errors = λ c. (steady i ok c).next n p X Y r now.X_still now.Y_still r-still
          (*ℤ_cancel (0<pos 65535) (lin 4 (λ D N d g. 1 *≤ # 4 ⊗ (D ⊗ g) ⊴ (D ⊗ N) ⊗ d ⇒ ⊩ D ⊗ (# 4 ⊗ g) ⊴ D ⊗ (N ⊗ d)) refl
          (pos D) (two_n i) (d i *ℤ d i) (weighed i.grid r r) r_small))
          (now.errors c);
    };
  }

  -- a claim that follows from a bound on G of the errors holds of every list of calls
  of_errors : (C : OfSteps) → ((i : Instrument) (ok : InstrumentPasses i) (older newer : List ℤ) (b : Book)
      → let X : Level = gap i.settings b.n newer b.newer in let Y : Level = gap i.settings b.n older b.older in
      Errors i ok b.n (scale i.settings b.n) X Y → distance i b.n newer b.newer ≡ weighed i.grid X X
      → C i b.n newer b.newer) → OfEveryList C
  of_errors C each = of_every_list C Errors errors_kept (λ i older newer b v. each i v.passes older newer b v.near
      (squares_are i.grid (scale i.settings b.n ⊡ point newer) (point b.newer)))

-- ---- a form of the instruments of a case bounds their errors

abbrev FormOf : Instrument → Type 0
FormOf i = Lyapunov (moving i.grid) (weighed i.grid) (free_step i) (pos (divisor i.settings))

-- 4·k times the distance is at most y·2N·r²·(D+s)²ⁿ
abbrev Bounds : (i : Instrument) (n : ℕ) (newer unrounded : List ℤ) → (k y r : ℤ) → Type 0
Bounds i n newer unrounded k y r = pos 4 *ℤ (k *ℤ distance i n newer unrounded) ⩽ y *ℤ
    (two_n i *ℤ ((r *ℤ r) *ℤ square (scale i.settings n)))

module _ (Case : Instrument → Type 0) (form : (i : Instrument) → InstrumentPasses i → Case i → FormOf i) where
  -- n times what a step rounds off
  of_growth : (C : OfSteps) → ((i : Instrument) (ok : InstrumentPasses i) (n : ℕ) (newer unrounded : List ℤ)
      → ((c : Case i) → let L = form i ok c in Bounds i n newer unrounded L.hold L.far (pos n)) → C i n newer unrounded)
      → OfEveryList C
  of_growth C each = of_errors Case (λ i ok c n p X Y. Grown (weighed_form i.grid) (free_still i) (two_n i) (form i ok c) n p X Y)
      (λ i ok c. record {
        first = grow_start (weighed_form i.grid) (free_still i) (two_n i) (form i ok c);
        next = λ n p X Y r sX sY sr off now. grow_step (weighed_form i.grid) (free_still i) (two_n i) (form i ok c) p sX sY sr off now;
      }) C
      (λ i ok older newer b v e. each i ok b.n newer b.newer (λ c. let L = form i ok c in
      ≡-≤ℤ (ap (λ z. pos 4 *ℤ (L.hold *ℤ z)) e)
      (grow_bound (weighed_form i.grid) (free_still i) (two_n i) L b.n (scale i.settings b.n) v.X_still v.Y_still
      (v.errors c))))

  -- where it shrinks, (α+β)/β times that
  of_fading : (fading : (i : Instrument) (ok : InstrumentPasses i) (c : Case i) → Fading (form i ok c)) → (C : OfSteps)
      → ((i : Instrument) (ok : InstrumentPasses i) (n : ℕ) (newer unrounded : List ℤ)
      → ((c : Case i) → let L = form i ok c in let T = fading i ok c in
      Bounds i n newer unrounded ((T.β *ℤ T.β) *ℤ L.hold) L.far (T.α +ℤ T.β)) → C i n newer unrounded) → OfEveryList C
  of_fading fading C each =
      of_errors Case (λ i ok c n p X Y. Faded (weighed_form i.grid) (free_still i) (two_n i) (form i ok c) (fading i ok c) p X Y)
      (λ i ok c. record {
        first = λ p. fade_start (weighed_form i.grid) (free_still i) (two_n i) (form i ok c) (fading i ok c) p
            (0≤pos (2 * points i.grid));
        next = λ n p X Y r sX sY sr off now.
            fade_step (weighed_form i.grid) (free_still i) (two_n i) (form i ok c) (fading i ok c) p sX sY sr off now;
      }) C
      (λ i ok older newer b v e. each i ok b.n newer b.newer (λ c. let L = form i ok c in let T = fading i ok c in
      ≡-≤ℤ (ap (λ z. pos 4 *ℤ ((T.β *ℤ T.β) *ℤ L.hold *ℤ z)) e ∙
      ring 3 (λ b h x. # 4 ⊗ (b ⊗ h ⊗ x) ≈ # 4 ⊗ (b ⊗ (h ⊗ x))) refl (T.β *ℤ T.β) L.hold (weighed i.grid _ _))
      (fade_bound (weighed_form i.grid) (free_still i) (two_n i) L T (scale i.settings b.n) v.X_still v.Y_still
      (v.errors c))))

pub distance_nonneg : (i : Instrument) (n : ℕ) (newer unrounded : List ℤ) → pos 0 ⩽ distance i n newer unrounded
distance_nonneg i n newer unrounded =
    ≤ℤ-≡ (weighed_nonneg i.grid _) (sym (squares_are i.grid (scale i.settings n ⊡ point newer) (point unrounded)))

-- k × Σ ≤ y × N × r², as `OfSums` has it
abbrev SumBound : Instrument → (n : ℕ) (newer unrounded : List ℤ) → (k y r : ℕ) → Type 0
SumBound i n newer unrounded k y r =
    pos k *ℤ distance i n newer unrounded ⩽ pos (y * (2 * points i.grid)) *ℤ (square (pos r) *ℤ square (scale i.settings n))

-- a bound with a smaller factor on the left, or larger ones on the right
weaker : (i : Instrument) (n : ℕ) (newer unrounded : List ℤ) {k k' y y' r r' : ℕ} → k ≤ k' → y' ≤ y → r' ≤ r
    → SumBound i n newer unrounded k' y' r' → SumBound i n newer unrounded k y r
weaker i n newer unrounded {k} {k'} hk hy hr b =
    ≤ℤ_trans (*ℤ_mono_r (distance i n newer unrounded) (distance_nonneg i n newer unrounded) (pos≤ hk))
    (≤ℤ_trans b (pos≤ (N.mul-le-mul (N.mul-le-mul_right (2 * points i.grid) hy) (N.mul-le-mul_right (p * p) (N.mul-le-mul hr hr)))))
  where
    p : ℕ
    p = divisor i.settings ^ n

-- with the factor 0 a bound says nothing
nothing_left : (i : Instrument) (n : ℕ) (newer unrounded : List ℤ) {k : ℕ} (y r : ℕ) → k ≡ 0 → SumBound i n newer unrounded k y r
nothing_left i n newer unrounded y r e =
    ≡-≤ℤ (ap (λ (k : ℕ). pos k *ℤ distance i n newer unrounded) e ∙ zero-*ℤ (distance i n newer unrounded)) (0≤pos _)

as_sum : (i : Instrument) (n : ℕ) (newer unrounded : List ℤ) (k y r : ℕ) → Bounds i n newer unrounded (pos k) (pos y) (pos r)
    → SumBound i n newer unrounded (4 * k) y r
as_sum i n newer unrounded k y r b =
    lin 5 (λ k y N x z. 1 *≤ # 4 ⊗ (k ⊗ x) ⊴ y ⊗ (N ⊗ z) ⇒ ⊩ (# 4 ⊗ k) ⊗ x ⊴ (y ⊗ N) ⊗ z) refl
    (pos k) (pos y) (two_n i) (distance i n newer unrounded) (pos (r * r) *ℤ square (scale i.settings n)) b

-- ---- linear

pub by_loss_linear : OfEveryList (OfSums (numbers lossLinear))
by_loss_linear = of_growth (λ i. Unit {0}) (λ i ok c. by_loss (lossy i ok)) (OfSums (numbers lossLinear))
    (λ i ok n newer unrounded bound all.
    let s : ℕ = i.settings.s in
    weaker i n newer unrounded {k' = 4 * (s * s)} {y' = divisor i.settings * D + s * s} {r' = n} (omega arith) (wide s) (omega arith)
    (as_sum i n newer unrounded (s * s) (divisor i.settings * D + s * s) n (bound tt)))
  where
    -- (D+s)·D + s² ≤ (D+s)²
    wide : (s : ℕ) → (D + s) * D + s * s ≤ (D + s) * (D + s)
    wide s = omega (arith, N.mul-add (D + s) D s, N.add-mul D s s)

module _ (H : Holding) (holds : Holds H) where
  pub by_linear : OfEveryList (OfSums (linear_by H))
  by_linear = of_growth (λ i. Unit {0}) (λ i ok c. by_energy (lossy i ok) (held i ok H holds)) (OfSums (linear_by H))
      (λ i ok n newer unrounded bound c.
      weaker i n newer unrounded {k' = 4 * H.hold i} {y' = H.far i * D} {r = (linear_by H).r i n} {r' = n}
      (omega arith) (omega arith) (omega arith)
      (as_sum i n newer unrounded (H.hold i) (H.far i * D) n (bound tt)))

  -- ---- for ever

  record Light (i : Instrument) : Type 0 where
    loss : 0 < i.settings.s
    small : H.far i * (i.settings.s * i.settings.s) ≤ H.hold i * D

  pub by_for_ever : OfEveryList (OfSums (for_ever_by H))
  by_for_ever = of_fading Light form fading (OfSums (for_ever_by H)) (λ i ok n newer unrounded bound c.
      let s : ℕ = i.settings.s in
      weaker i n newer unrounded {k' = 4 * (s * s * H.hold i)} {y' = H.far i * D} {r' = divisor i.settings} (omega arith) (omega arith)
      (omega arith)
      (go i n newer unrounded (omega (arith, c)) bound s refl))
    where
      form : (i : Instrument) → InstrumentPasses i → Light i → FormOf i
      form i ok c = by_light_loss (lossy i ok) (held i ok H holds) (pos< c.loss) (pos≤ c.small)

      fading : (i : Instrument) (ok : InstrumentPasses i) (c : Light i) → Fading (form i ok c)
      fading i ok c = light_fading (lossy i ok) (held i ok H holds) (pos< c.loss) (pos≤ c.small)

      go : (i : Instrument) (n : ℕ) (newer unrounded : List ℤ) → H.far i * (i.settings.s * i.settings.s) ≤ H.hold i * D
          → let k : ℕ = i.settings.s * i.settings.s * H.hold i in
          (Light i → Bounds i n newer unrounded (pos k) (pos (H.far i * D)) (pos (divisor i.settings)))
          → (s : ℕ) → i.settings.s ≡ s → SumBound i n newer unrounded (4 * k) (H.far i * D) (divisor i.settings)
      go i n newer unrounded small bound zero e =
          nothing_left i n newer unrounded (H.far i * D) (divisor i.settings)
          (ap (λ (s : ℕ). 4 * (s * s * H.hold i)) e ∙ ap (λ (x : ℕ). 4 * x) (N.zero-mul (H.hold i)))
      go i n newer unrounded small bound (suc s) e =
          as_sum i n newer unrounded (i.settings.s * i.settings.s * H.hold i) (H.far i * D) (divisor i.settings)
          (bound (record { loss = omega (arith, e); small = small }))

  record Heavy (i : Instrument) : Type 0 where
    loss : 0 < i.settings.s
    some_hold : 0 < H.hold i
    large : H.hold i * D ≤ H.far i * (i.settings.s * i.settings.s)

  pub by_heavy_loss : OfEveryList (OfSums (heavy_loss_by H))
  by_heavy_loss = of_fading Heavy form fading (OfSums (heavy_loss_by H)) (λ i ok n newer unrounded bound c.
      weaker i n newer unrounded {k' = H.hold i * H.hold i} {y' = 4 * (H.far i * H.far i)} {r' = divisor i.settings} (omega arith)
      (omega arith) (omega arith)
      (go i n newer unrounded (omega (arith, c)) bound (H.hold i) refl i.settings.s refl))
    where
      form : (i : Instrument) → InstrumentPasses i → Heavy i → FormOf i
      form i ok c = by_loss (lossy i ok)

      fading : (i : Instrument) (ok : InstrumentPasses i) (c : Heavy i) → Fading (form i ok c)
      fading i ok c = heavy_fading (lossy i ok) (held i ok H holds) (pos< c.loss) (pos< c.some_hold) (pos≤ c.large)

      go : (i : Instrument) (n : ℕ) (newer unrounded : List ℤ) → H.hold i * D ≤ H.far i * (i.settings.s * i.settings.s)
          → let h : ℤ = pos (H.hold i) in let f : ℤ = pos (H.far i) in let s : ℤ = pos i.settings.s in let d : ℤ =
          pos (divisor i.settings) in
          (Heavy i → Bounds i n newer unrounded ((h *ℤ h) *ℤ (s *ℤ s)) (d *ℤ pos D +ℤ s *ℤ s) ((pos 4 *ℤ (s *ℤ f) -ℤ h) +ℤ h))
          → (h : ℕ) → H.hold i ≡ h → (s : ℕ) → i.settings.s ≡ s
          → SumBound i n newer unrounded (H.hold i * H.hold i) (4 * (H.far i * H.far i)) (divisor i.settings)
      go i n newer unrounded large bound zero e s e' =
          nothing_left i n newer unrounded (4 * (H.far i * H.far i)) (divisor i.settings) (ap (λ (h : ℕ). h * h) e)
      go i n newer unrounded large bound (suc h) e zero e' =
          absurd (omega (arith, e, large, ap (λ (s : ℕ). H.far i * (s * s)) e' ∙ N.mul-zero (H.far i)))
      go i n newer unrounded large bound (suc h) e (suc s) e' =
          let loss : 0 < i.settings.s = omega (arith, e') in
          *ℤ_cancel (mul-positive (0<pos 3) (mul-positive (pos< loss) (pos< loss)))
          (lin 7 (λ D s h f N x p. let d = D ⊕ s in
          1 *≤ # 4 ⊗ (h ² ⊗ s ² ⊗ x) ⊴ (d ⊗ D ⊕ s ²) ⊗ (N ⊗ ((# 4 ⊗ (s ⊗ f) ⊖ h ⊕ h) ² ⊗ p ²)) ⇒
          (# 16 ⊗ (s ² ⊗ f ²) ⊗ (N ⊗ p ²) ⊗ D) *⊴ # 0 ⊴ s ⇒
          ⊩ # 4 ⊗ s ² ⊗ (h ² ⊗ x) ⊴ # 4 ⊗ s ² ⊗ ((# 4 ⊗ f ²) ⊗ N ⊗ (d ² ⊗ p ²))) refl
          (pos D) (pos i.settings.s) (pos (H.hold i)) (pos (H.far i)) (two_n i) (distance i n newer unrounded) (scale i.settings n)
          (bound (record { loss = loss; some_hold = omega (arith, e); large = large }))
          (0≤pos _) (0≤pos i.settings.s))
