-- The fields that the library's `splitn` gives, one after the other.
use mathlib.Core.Path.{◌≡◌, refl, sym, ap, ◌∙◌, subst}
use mathlib.Core.Bool.{Bool, true, false}
use mathlib.Core.List.{List, [], ◌∷◌, ◌++◌}
use mathlib.Core.Logic.{◌⊎◌, ⊎_elim}
use Prim.Native.Nat.{ℕ, suc, ◌+◌, ◌-◌, ◌<◌}
use native.Mathlib.Omega.{arith}
use lib.Dec.{eqb}
use lib.ListN.{length, set}
use Rattle.std.specs.Prelude.{Option, Some, MatchOption, MatchBool}
use Rattle.std.specs.Fn.{Mut, ComputesKey}
use Rattle.std.specs.List.{IsFirstMatchOrLen}
use Rattle.std.specs.declared.slice.SplitN.{SplitN}
use Rattle.std.specs.Slice.Iter.{split_rest, split_done, split_callee, splitn_parts, splitn_count}
use denote.Bor.{Bor}
use Rattle.ring_decimals.specs.Decimals.{digits_value, is_unsigned}
use Rattle.ring_line.specs.Lists.{split_on}
use Rattle.ring_line.specs.Requests.{space, fields, well_formed}
use Rattle.ring_line.specs.Reading.{Read, Left}
use Rattle.ring_line.proofs.FieldLaws.{read_none, too_few, wrong_field, read_more}

abbrev pub is_space : ℕ → Bool
is_space b = eqb b space

cut : (xs : List ℕ) (y : ℕ) (after : List ℕ) → IsFirstMatchOrLen is_space (xs ++ (y ∷ after)) (length xs) →
    fields (xs ++ (y ∷ after)) ≡ xs ∷ fields after
unfolding split_on
cut [] y after m = simp (m.1 (omega arith) 0)
cut (b ∷ bs) y after m =
    let none : is_space b ≡ false = m.0 0 0 (omega arith) (omega arith) in
    let rest = cut bs y after ((λ k d l h. m.0 (suc k) d (omega arith) (omega arith)), (λ h d. m.1 (omega arith) d)) in
    simp (none, rest)

uncut : (xs : List ℕ) → IsFirstMatchOrLen is_space xs (length xs) → fields xs ≡ xs ∷ []
unfolding split_on
uncut [] m = refl
uncut (b ∷ bs) m =
    let none : is_space b ≡ false = m.0 0 0 (omega arith) (omega arith) in
    let rest = uncut bs ((λ k d l h. m.0 (suc k) d (omega arith) (omega arith)), (λ h d. absurd (omega arith))) in
    simp (none, rest)

-- no field is left
pub none_left : {F : Type 0} (line values : List ℕ) (i : ℕ) (s : SplitN ℕ F) → Left line i values s → i < 10 →
    (splitn_count s ≡ 0) ⊎ (split_done (splitn_parts s) ≡ true) → well_formed (fields line) ≡ false
none_left line values i s l h e =
    let rest = Read line i values (split_rest (splitn_parts s)) in
    ⊎_elim (λ z. absurd (omega (arith, l.count, z)))
    (λ d. subst (λ (b : Bool). MatchBool b (well_formed (fields line) ≡ false) rest) d l.rest) e

-- what a call of `next` tells
module _ {F : Type 0} (g : Mut F (Bor ℕ × Unit {0}) Bool) (s t : SplitN ℕ F) where
  abbrev Steps : Option (Bor (List ℕ)) → Type 0
  Steps r = (splitn_count t ≡ splitn_count s - 1) × MatchOption r ((splitn_count s ≡ 0) ⊎ (split_done (splitn_parts s) ≡ true))
      (λ x. (0 < splitn_count s) × (splitn_count s ≡ 1 → split_done (splitn_parts t) ≡ true)
      × MatchBool (split_done (splitn_parts t)) (split_rest (splitn_parts s) ≡ x.now)
      ((y : ℕ) × (split_rest (splitn_parts s) ≡ x.now ++ (y ∷ split_rest (splitn_parts t))))
      × (split_done (splitn_parts s) ≡ false)
      × (1 < splitn_count s → (p : ℕ → Bool) → ComputesKey g p (split_callee (splitn_parts s))
      → ComputesKey g p (split_callee (splitn_parts t)) × IsFirstMatchOrLen p (split_rest (splitn_parts s)) (length x.now)))

  module _ (line values : List ℕ) (i : ℕ) (l : Left line i values s) where
    -- a field is left
    module _ (x : Bor (List ℕ)) (e : Steps (Some x)) where
      abbrev rest : List ℕ
      rest = split_rest (splitn_parts s)

      abbrev after : List ℕ
      after = split_rest (splitn_parts t)

      read : Read line i values rest
      read = subst (λ (b : Bool). MatchBool b (well_formed (fields line) ≡ false) (Read line i values rest)) e.1.3 l.rest

      pub last_left : i ≡ 9 → Read line 9 values x.now
      last_left h =
          let done = e.1.1 (omega (arith, l.count)) in
          let whole = subst (λ (b : Bool). MatchBool b (rest ≡ x.now) ((y : ℕ) × (rest ≡ x.now ++ (y ∷ after)))) done e.1.2 in
          subst (λ (k : ℕ). Read line k values x.now) h (subst (Read line i values) whole read)

      -- it is not the last of ten
      module _ (h : i < 9) (key : ComputesKey g is_space (split_callee (splitn_parts s))) where
        match : IsFirstMatchOrLen is_space rest (length x.now)
        match = (e.1.4 (omega (arith, l.count)) is_space key).1

        alone : rest ≡ x.now → well_formed (fields line) ≡ false
        alone w =
            let m = subst (λ (r : List ℕ). IsFirstMatchOrLen is_space r (length x.now)) w match in
            too_few line values i rest read (subst (λ (r : List ℕ). fields r ≡ r ∷ []) (sym w) (uncut x.now m)) h

        others : (y : ℕ) → rest ≡ x.now ++ (y ∷ after) → fields rest ≡ x.now ∷ fields after
        others y w =
            let m = subst (λ (r : List ℕ). IsFirstMatchOrLen is_space r (length x.now)) w match in
            ap fields w ∙ cut x.now y after m

        pub wrong_left : is_unsigned x.now ≡ false → well_formed (fields line) ≡ false
        wrong_left u = go (split_done (splitn_parts t)) e.1.2
          where
            go : (b : Bool) → MatchBool b (rest ≡ x.now) ((y : ℕ) × (rest ≡ x.now ++ (y ∷ after))) → well_formed (fields line) ≡ false
            go true w = alone w
            go false w = wrong_field line values i rest read x.now after (others w.0 w.1) h u

        pub more_left : (v : ℕ) → i < length values → is_unsigned x.now ≡ true → digits_value x.now ≡ v →
            Left line (i + 1) (set values i v) t
        more_left v low u d = record { count = omega (arith, l.count, e.0); rest = go (split_done (splitn_parts t)) e.1.2 }
          where
            go : (b : Bool) → MatchBool b (rest ≡ x.now) ((y : ℕ) × (rest ≡ x.now ++ (y ∷ after))) →
                MatchBool b (well_formed (fields line) ≡ false) (Read line (i + 1) (set values i v) after)
            go true w = alone w
            go false w = read_more line values i rest read x.now after (others w.0 w.1) v low u d

pub all_left : {F : Type 0} (line values : List ℕ) (s : SplitN ℕ F) → splitn_count s ≡ 10 → split_done (splitn_parts s) ≡ false →
    split_rest (splitn_parts s) ≡ line → Left line 0 values s
all_left line values s c d r =
    record {
      count = omega (arith, c);
      rest = subst (λ (b : Bool). MatchBool b (well_formed (fields line) ≡ false) (Read line 0 values (split_rest (splitn_parts s))))
          (sym d)
          (subst (Read line 0 values) (sym r) (read_none line values));
    }
