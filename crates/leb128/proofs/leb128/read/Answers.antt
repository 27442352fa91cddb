-- `leb128::leb128::read` meets its contract: in the loop's state, what is left to read is still the number at `at` (`reading`), and each
-- branch is one law of it. Nothing overflows, as value + b * scale is at most `most` once the second test has passed. Assumes nothing.
use Prim.Native.Nat.{ℕ, ◌+◌, ◌-◌, ◌*◌, ◌/◌, ◌^◌, ◌≤◌, ◌<◌}
use mathlib.Core.Path.{◌≡◌, refl, sym, ◌∙◌}
use native.Mathlib.Omega.{arith}
use lib.ListN.{get_or}
use lib.Pow.{pow_pos}
use Rattle.std.specs.Prelude.{Result, Err}
use Rattle.rules.specs.declared.refusal.Refusal.{Refusal}
use Rattle.rules.specs.declared.refusal.Refusal.TheVariants.{Cut}
use Rattle.leb128.proofs.Number.{reading_starts, reading_cut, reading_low, reading_high, reading_ends, reading_more, room_for, high_bit_off, next_power, narrow}
use Rattle.leb128.proofs.leb128.read.Goals as goal

positive : (scale shift : ℕ) → scale ≡ 2 ^ shift → 0 < scale
positive scale shift e = rw e (pow_pos shift)

-- the test shifts by `shift`, which divides by `scale`
high : (x b scale shift : ℕ) → scale ≡ 2 ^ shift → x / 2 ^ shift < b → x / scale < b
high x b scale shift e h = rw e h

fine : (x b scale shift : ℕ) → scale ≡ 2 ^ shift → b ≤ x / 2 ^ shift → b ≤ x / scale
fine x b scale shift e h = rw e h

-- A number that is cut tells `at`, in whatever words the code says that place; the edit u32_cut_place says another.
told : {x : Result (ℕ × ℕ) Refusal} (place at : ℕ) → place ≡ at → Err (Cut at) ≡ x → Err (Cut place) ≡ x
told place at e h = rw e h

pub loop-i-init : goal.loop-i-init
loop-i-init c =
    record {
      small = omega arith;
      power = refl;
      short = omega arith;
      rest = reading_starts _ _ _ _;
    }

pub returns-then-b-least : goal.returns-then-b-least
returns-then-b-least c =
    sym (reading_low _ _ _ _ _ _ _ _ c.loop-i-test.true c.requires c.if-b-least.true) ∙ c.loop-i.invariant.rest

pub returns-then-most-value : goal.returns-then-most-value
returns-then-most-value c =
    sym
    (reading_high _ _ _ _ _ _ _ _
    c.loop-i-test.true
    c.requires
    c.if-b-least.false
    (high _ _ _ _ c.loop-i.invariant.power c.if-most-value.true))
    ∙ c.loop-i.invariant.rest

pub returns-then-b-lt128 : goal.returns-then-b-lt128
returns-then-b-lt128 c =
    sym
    (reading_ends _ _ _ _ _ _ _ _
    c.loop-i-test.true
    c.requires
    c.loop-i.auto.i
    c.if-b-least.false
    (fine _ _ _ _ c.loop-i.invariant.power c.if-most-value.false)
    c.if-b-lt128.true)
    ∙ c.loop-i.invariant.rest

pub loop-i-preserved : goal.loop-i-preserved
loop-i-preserved c =
    let v = (let it : c.loop-i.value + get_or c.args.bytes.now c.loop-i.i 0 * c.loop-i.scale ≤ c.args.most = room_for _ _ _ _ _ c.loop-i.invariant.power c.loop-i.invariant.small c.if-most-value.false in it) in
    let e = (let it : (let b = get_or c.args.bytes.now c.loop-i.i 0 in
    b * c.loop-i.scale ≡ (b - 128) * c.loop-i.scale + c.loop-i.scale * 128) = high_bit_off _ _ c.if-b-lt128.false in it) in
    let p : c.loop-i.scale * 128 ≡ 2 ^ (c.loop-i.shift + 7) = next_power _ _ c.loop-i.invariant.power in
    record {
      small = omega (arith, v, e);
      power = p;
      short = narrow _ _ p (omega (arith, v, e, c.ranges.most));
      rest =
          sym
          (reading_more _ _ _ _ _ _ _ _
          c.loop-i-test.true
          c.requires
          c.loop-i.auto.i
          c.if-b-least.false
          (fine _ _ _ _ c.loop-i.invariant.power c.if-most-value.false)
          (positive _ _ c.loop-i.invariant.power)
          (omega (arith, v, e))
          c.if-b-lt128.false)
          ∙ c.loop-i.invariant.rest;
    }

pub returns : goal.returns
returns c = told _ _ (omega arith) (sym (reading_cut _ _ _ _ _ _ _ _ c.loop-i-test.false) ∙ c.loop-i.invariant.rest)
