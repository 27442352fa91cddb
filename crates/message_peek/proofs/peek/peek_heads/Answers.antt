-- `message_peek::peek::peek_heads` meets its contract: the first stage decides, and the heads that it found stand inside the message. Assumes nothing.
use mathlib.Core.Path.{◌≡◌, sym}
use native.Mathlib.Omega.{arith}
use lib.ListN.{length}
use Rattle.rules.proofs.Cases.{handed_on}
use Rattle.message_read.specs.MessageRead.{opening_at}
use Rattle.wire.proofs.Item.{HashesInside}
use Rattle.message_peek.proofs.PeekLaws.{peek_gone, heads_inside, peek_short, part_long, peek_heads}
use Rattle.message_peek.proofs.peek.peek_heads.Goals as goal
use Rattle.std.specs.Prelude.{Ok}

pub overflow_mul-size : goal.overflow_mul-size
overflow_mul-size c = omega (arith, ((let it : HashesInside c.args.bytes.now 1 (length c.args.bytes.now) c.in_ok-version.heads c.in_ok-version.next = heads_inside _ c.args.out.now _ _ _ _ ((let it : opening_at c.args.bytes.now ≡ Ok (c.in_ok-version.version, c.in_ok-version.heads, c.in_ok-version.next) = sym c.in_ok-version.ensures in it)) in it)).small)

pub returns-then-out-size : goal.returns-then-out-size
returns-then-out-size c = peek_short _ _ _ _ _ _ ((let it : opening_at c.args.bytes.now ≡ Ok (c.in_ok-version.version, c.in_ok-version.heads, c.in_ok-version.next) = sym c.in_ok-version.ensures in it)) c.if-out-size.true

pub slice_bounds-copy_into-count : goal.slice_bounds-copy_into-count
slice_bounds-copy_into-count c = omega (arith, ((let it : HashesInside c.args.bytes.now 1 (length c.args.bytes.now) c.in_ok-version.heads c.in_ok-version.next = heads_inside _ c.args.out.now _ _ _ _ ((let it : opening_at c.args.bytes.now ≡ Ok (c.in_ok-version.version, c.in_ok-version.heads, c.in_ok-version.next) = sym c.in_ok-version.ensures in it)) in it)).whole)

pub slice_bounds-copy_into-start : goal.slice_bounds-copy_into-start
slice_bounds-copy_into-start c = omega (arith, ((let it : HashesInside c.args.bytes.now 1 (length c.args.bytes.now) c.in_ok-version.heads c.in_ok-version.next = heads_inside _ c.args.out.now _ _ _ _ ((let it : opening_at c.args.bytes.now ≡ Ok (c.in_ok-version.version, c.in_ok-version.heads, c.in_ok-version.next) = sym c.in_ok-version.ensures in it)) in it)).whole)

pub slice_bounds-copy_into-end : goal.slice_bounds-copy_into-end
slice_bounds-copy_into-end c = omega (arith, ((let it : HashesInside c.args.bytes.now 1 (length c.args.bytes.now) c.in_ok-version.heads c.in_ok-version.next = heads_inside _ c.args.out.now _ _ _ _ ((let it : opening_at c.args.bytes.now ≡ Ok (c.in_ok-version.version, c.in_ok-version.heads, c.in_ok-version.next) = sym c.in_ok-version.ensures in it)) in it)).there)

pub copy_into-requires : goal.copy_into-requires
copy_into-requires c =
    omega (arith, part_long _ c.args.out.now _ _ _ _ ((let it : opening_at c.args.bytes.now ≡ Ok (c.in_ok-version.version, c.in_ok-version.heads, c.in_ok-version.next) = sym c.in_ok-version.ensures in it)), c.if-out-size.false)

pub returns : goal.returns
returns c =
    peek_heads _ _ _ _ _ _ ((let it : opening_at c.args.bytes.now ≡ Ok (c.in_ok-version.version, c.in_ok-version.heads, c.in_ok-version.next) = sym c.in_ok-version.ensures in it)) _ c.if-out-size.false c.copy_into.ensures

pub returns-in_err-version : goal.returns-in_err-version
returns-in_err-version c = rw (handed_on c.from_residual.ensures.1) (peek_gone _ _ _ (sym c.in_err-version.ensures))
