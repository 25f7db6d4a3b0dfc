-- Two programs whose calls are mirrored, whatever their sample buffers and work levels held before each call.
use mathlib.Core.Path.{◌≡◌, refl, sym, ap, ap₂, ◌∙◌}
use mathlib.Core.List.{List, [], ◌∷◌, map}
use Prim.Native.Nat.{ℕ, zero, suc}
use lib.IntN.{ℤ, neg_ℤ}
use lib.ListN.{take}
use Rattle.scheme.specs.Book.{Book, Call, block_call, in_place_call, pluck_call, pluck_with_call, Outcome, block_outcome, in_place_outcome}
use Rattle.scheme.specs.Book.{pluck_outcome, Left, book_call, sum_call, State, start, state_after, called, AfterCalls, calls}
use Rattle.scheme.specs.Program.{calls_of}
use Rattle.scheme.specs.Mirror.{negated, mirror_samples, mirror_outcome, mirror_left, mirror_state, mirror_after, blank, heard}
use Rattle.scheme.specs.Mirror.{heard_left, heard_after, ProgramMirrorImage}
use Rattle.scheme.proofs.Laws.Content.{content_left}
use Rattle.scheme.proofs.Theorems.Program.{program_run}
use Rattle.scheme.proofs.Theorems.Mirror.{told, fed_book, fed_sum, mirror_image}

-- ---- what the buffers held plays no part

told-heard : (o : Outcome) → told (heard o) ≡ told o
told-heard (block_outcome a work samples) = refl
told-heard (in_place_outcome a samples) = refl
told-heard (pluck_outcome r) = refl

blank_book : (k : Call) (o : Outcome) (older newer : List ℤ) (b : Book) → book_call (blank k) o older newer b ≡ book_call k o older newer b
unfolding book_call
blank_book (block_call i work samples pick h) o older newer b = refl
blank_book (in_place_call i samples pick h) o older newer b = refl
blank_book (pluck_call g c w a) o older newer b = refl
blank_book (pluck_with_call g c w a lent) o older newer b = refl

blank-sum : (k : Call) (o : Outcome) (b : Book) (sum : ℕ) → sum_call (blank k) o b sum ≡ sum_call k o b sum
unfolding sum_call
blank-sum (block_call i work samples pick h) o b sum = refl
blank-sum (in_place_call i samples pick h) o b sum = refl
blank-sum (pluck_call g c w a) o b sum = refl
blank-sum (pluck_with_call g c w a lent) o b sum = refl

-- the state after a call
content_state : (k : Call) (t : State) → state_after (blank k) (called (blank k) t) t ≡ state_after k (called k t) t
content_state k t =
    let o = (called k t).outcome in
    let o' = (called (blank k) t).outcome in
    let e = content_left k t.older t.newer in
    let same = sym (told-heard o') ∙ ap (λ (l : Left). told l.outcome) e ∙ told-heard o in
    λ x. record {
      older = (e x).older;
      newer = (e x).newer;
      book = (fed_book (blank k) o' o t.older t.newer t.book same ∙ blank_book k o t.older t.newer t.book) x;
      inexact = (fed_sum (blank k) o' o t.book t.inexact same ∙ blank-sum k o t.book t.inexact) x;
    }

content_list : (ks : List Call) (t : State) → heard_after (calls (map blank ks) t) ≡ heard_after (calls ks t)
unfolding calls
content_list [] t = refl
content_list (k ∷ ks) t =
    let left = content_left k t.older t.newer in
    let rest = ap (λ (s : State). heard_after (calls (map blank ks) s)) (content_state k t) ∙
    content_list ks (state_after k (called k t) t) in
    λ x. record { left = left x ∷ (rest x).left; state = (rest x).state }

-- ---- the mirror image of what is heard

take_mirrored : (n : ℕ) (xs : List ℤ) → take n (mirror_samples n xs) ≡ mirror_samples n (take n xs)
take_mirrored zero xs = refl
take_mirrored (suc n) [] = refl
take_mirrored (suc n) (x ∷ xs) = ap (λ (ys : List ℤ). neg_ℤ x ∷ ys) (take_mirrored n xs)

heard_mirrored : (l : Left) → heard_left (mirror_left l) ≡ mirror_left (heard_left l)
heard_mirrored l = ap (λ (o : Outcome). record { outcome = o; older = negated l.older; newer = negated l.newer }) (go l.outcome)
  where
    go : (o : Outcome) → heard (mirror_outcome o) ≡ mirror_outcome (heard o)
    go (block_outcome a work samples) = ap (block_outcome a []) (take_mirrored a.steps samples)
    go (in_place_outcome a samples) = ap (in_place_outcome a) (take_mirrored a.steps samples)
    go (pluck_outcome r) = refl

lefts_mirrored : (ls : List Left) → map heard_left (map mirror_left ls) ≡ map mirror_left (map heard_left ls)
lefts_mirrored [] = refl
lefts_mirrored (l ∷ ls) = ap₂ ◌∷◌ (heard_mirrored l) (lefts_mirrored ls)

after_mirrored : (a : AfterCalls) → heard_after (mirror_after a) ≡ mirror_after (heard_after a)
after_mirrored a = ap (λ (ls : List Left). record { left = ls; state = mirror_state a.state }) (lefts_mirrored a.left)

pub program_mirror_image : ProgramMirrorImage
program_mirror_image older newer ms ns kept kept' same =
    ap (λ (a : AfterCalls). heard_after a) (sym (program_run ns t' kept')) ∙ sym (content_list (calls_of ns) t') ∙
    ap (λ (ks : List Call). heard_after (calls ks t')) same ∙
    ap (λ (a : AfterCalls). heard_after a) (mirror_image older newer (map blank (calls_of ms))) ∙
    after_mirrored (calls (map blank (calls_of ms)) t) ∙
    ap (λ (a : AfterCalls). mirror_after a) (content_list (calls_of ms) t ∙ ap (λ (a : AfterCalls). heard_after a) (program_run ms t kept))
  where
    t : State
    t = start older newer

    t' : State
    t' = start (negated older) (negated newer)
