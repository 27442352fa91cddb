-- `bloom::rule::bits_capacity` meets its contract: the product of two filter numbers, and 7 more, fit 64 bits. Assumes nothing.
use native.Mathlib.Omega.{arith}
use Rattle.bloom.specs.Filter.{field_size}
use Rattle.bloom.proofs.Rules.{product_most}
use borrow.Author.Rules.{rules}
use Rattle.bloom.proofs.rule.bits_capacity.Goals as goal

pub overflow_mul-result : goal.overflow_mul-result
overflow_mul-result c = omega (arith, product_most _ _ c.requires.0 c.requires.1)

pub overflow_add-result : goal.overflow_add-result
overflow_add-result c = omega (arith, product_most _ _ c.requires.0 c.requires.1)

pub returns : goal.returns
unfolding field_size
returns c = search rules
