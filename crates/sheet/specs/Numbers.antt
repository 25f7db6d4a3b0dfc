-- Refusal 3: "A sheet number that is not finite, is negative (minus zero counts as zero), or is zero where it is the sample rate, length,
-- density or decay time (a loss per second may be zero); or a pitch in hertz for kinds 5 and 6." Of kind 7, "3 refuses a pitch in hertz
-- for it as for drumheads".
use Rattle.std.specs.Prelude.{Bool, true, false, not, ◌&&◌, ◌||◌, eqb, Float}
use Rattle.std.specs.Float.{nan, inf, fin}
use Rattle.types.specs.declared.Kind.{Kind}
use Rattle.types.specs.declared.Kind.TheVariants.{Unknown, StringFixed, StringFixedFree, StringFree, Bar, MembraneRectangular}
use Rattle.types.specs.declared.Kind.TheVariants.{MembraneRound, Plate}
use Rattle.sheet.specs.declared.Speed.{Speed}
use Rattle.sheet.specs.declared.Speed.TheVariants.{Hertz, Tension}
use Rattle.sheet.specs.declared.Loss.{Loss}
use Rattle.sheet.specs.declared.Loss.TheVariants.{PerSecond, Seconds}
use Rattle.sheet.specs.declared.Sheet.{Sheet}

-- neither "not finite" nor "negative (minus zero counts as zero)": `fin s m e` is m × 2ᵉ with the sign s
unfoldable pub non_negative : Float → Bool
non_negative nan = false
non_negative (inf s) = false
non_negative (fin s m e) = not s || eqb m 0

-- nor "zero where it is the sample rate, length, density or decay time"
unfoldable pub positive : Float → Bool
positive nan = false
positive (inf s) = false
positive (fin s m e) = not s && not (eqb m 0)

-- the kinds that take "a pitch in hertz": not "kinds 5 and 6", and not plates
abbrev pub pitched : Kind → Bool
pitched Unknown = false
pitched StringFixed = true
pitched StringFixedFree = true
pitched StringFree = true
pitched Bar = true
pitched MembraneRectangular = false
pitched MembraneRound = false
pitched Plate = false

abbrev pub speed_allowed : Kind → Speed → Bool
speed_allowed k (Hertz f) = pitched k && non_negative f
speed_allowed k (Tension tension density) = non_negative tension && positive density

abbrev pub loss_allowed : Loss → Bool
loss_allowed (PerSecond sigma) = non_negative sigma
loss_allowed (Seconds seconds) = positive seconds

-- 3 does not apply
unfoldable pub numbers_allowed : Kind → Sheet → Bool
numbers_allowed k s = positive s.rate && positive s.length && non_negative s.bending
    && speed_allowed k s.speed && loss_allowed s.loss
