-- `is_row_unfixed` meets its contract: a round membrane's row by its edge, any other by its run.
use Rattle.std.proofs.Common.{◌≡◌, sym, ap, ◌∙◌, subst, arith}
use Rattle.types.specs.declared.Kind.{Kind}
use Rattle.scheme.specs.Instruments.{size_in}
use Rattle.kinds.specs.Runs.{run_of}
use Rattle.sizes.proofs.KindLaws.{round_size}
use Rattle.kinds.proofs.RunLaws.{RunIn, not_round, straight_row, run_bounds}
use Rattle.levels.specs.Levels.{row_not_zero}
use Rattle.levels.proofs.LevelLaws.{row_test, round_row}
use Rattle.levels.proofs.levels.is_row_unfixed.Goals as goal

pub round_not_zero-requires : goal.round_not_zero-requires
round_not_zero-requires c =
    let g = c.args.g in
    let w = round_size g.columns g.rows
    (ap (λ (K : Kind). size_in K g.columns g.rows) (sym c.in-MembraneRound.is ∙ c.from.ensures) ∙ c.requires.0) in
    (omega (arith, w.0, c.requires.2), omega (arith, w.1, c.requires.1, c.requires.2))

run_is : (c : goal.After-straight_run) → c.straight_run.result ≡ run_of c.args.g c.args.b
run_is c =
    c.straight_run.ensures ∙ straight_row _ _ c.requires.0 c.requires.1
    (not_round _ (λ e. c.in_default.not-MembraneRound (c.from.ensures ∙ e)))

pub row_not_zero-requires : goal.row_not_zero-requires
row_not_zero-requires c =
    let w = subst (RunIn c.args.g.columns) (sym (run_is c)) (run_bounds _ _) in (w.rising, omega (arith, w.inside, c.requires.2))

pub returns-in-MembraneRound : goal.returns-in-MembraneRound
returns-in-MembraneRound c =
    c.round_not_zero.ensures ∙
    sym (round_row c.args.g (sym c.from.ensures ∙ c.in-MembraneRound.is) c.args.b c.args.row.now c.requires.2)

pub returns-in_default : goal.returns-in_default
returns-in_default c =
    let a = c.args in
    c.row_not_zero.ensures ∙
    ap (row_not_zero a.row.now)
    (c.straight_run.ensures ∙ straight_row _ _ c.requires.0 c.requires.1
    (not_round _ (λ e. c.in_default.not-MembraneRound (c.from.ensures ∙ e)))) ∙
    sym (row_test a.g c.requires.0 a.b c.requires.1 a.row.now c.requires.2)
