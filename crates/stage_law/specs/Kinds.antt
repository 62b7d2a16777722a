-- Which stages are linear, which carry their elements in whole numbers, which have the nodes of a linear group alone, and which have registers
-- of one width.
use Rattle.std.specs.Prelude.{Bool, true, false}
use Rattle.stage_law.specs.declared.stage.Kind.{Kind}
use Rattle.stage_law.specs.declared.stage.Kind.TheVariants.{Parallel, Symmetric, HalfBand, Folded, Distributed, CicDown, CicUp, Rounding, Clipping}

-- its registers have the least widths, and each holds in the run what it holds uncut
abbrev pub is_linear : Kind → Bool
is_linear Parallel = true
is_linear Symmetric = true
is_linear HalfBand = true
is_linear Folded = true
is_linear Distributed = false
is_linear CicDown = false
is_linear CicUp = false
is_linear Rounding = false
is_linear Clipping = false

-- it carries its elements in the uncut run too
abbrev pub carries_uncut : Kind → Bool
carries_uncut Parallel = true
carries_uncut Symmetric = true
carries_uncut HalfBand = true
carries_uncut Folded = true
carries_uncut Distributed = true
carries_uncut CicDown = true
carries_uncut CicUp = true
carries_uncut Rounding = false
carries_uncut Clipping = false

-- its nodes compute sums, differences, constants, shifts up and choices by control, or are registers
abbrev pub has_linear_shape : Kind → Bool
has_linear_shape Parallel = true
has_linear_shape Symmetric = true
has_linear_shape HalfBand = true
has_linear_shape Folded = true
has_linear_shape Distributed = false
has_linear_shape CicDown = true
has_linear_shape CicUp = true
has_linear_shape Rounding = false
has_linear_shape Clipping = false

-- its registers are all of the least width for what it gives
abbrev pub has_one_width : Kind → Bool
has_one_width Parallel = false
has_one_width Symmetric = false
has_one_width HalfBand = false
has_one_width Folded = false
has_one_width Distributed = false
has_one_width CicDown = true
has_one_width CicUp = true
has_one_width Rounding = false
has_one_width Clipping = false
