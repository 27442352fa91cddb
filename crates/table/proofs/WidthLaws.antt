-- Both widths have counts and row numbers of two bytes.
use native.Mathlib.Omega.{arith}
use Rattle.table.specs.Widths.{wide_rows, narrow_rows, Sized}

pub wide_sized : Sized wide_rows
wide_sized = record { counts = omega arith; numbers = omega arith }

pub narrow_sized : Sized narrow_rows
narrow_sized = record { counts = omega arith; numbers = omega arith }
