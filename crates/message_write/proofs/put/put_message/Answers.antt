-- `message_write::put::put_message` meets its contract: after each part, what is put and what is still to be put are together the message. Assumes nothing.
use native.Mathlib.Omega.{arith}
use lib.ListN.{set}
use Rattle.message.specs.Write.{parts_of, message_of}
use Rattle.message.specs.Flags.{section_bytes}
use Rattle.message.specs.Message.{Message, counted, have_bytes, message_bytes}
use Rattle.wire.specs.Item.{hash_list_bytes, prefixed_bytes}
use Rattle.leb128.specs.Number.{Put}
use Rattle.message_size.proofs.WriteLaws.{message_written}
use Rattle.message_write.proofs.PutLaws.{Putting, put_long, putting_type, putting_on, putting_last, putting_room, putting_all, message_some, from_heads, from_need, from_haves, from_chunks}
use Rattle.message_write.proofs.put.put_message.Goals as goal

pub bounds-out-0 : goal.bounds-out-0
bounds-out-0 c = omega (
  arith,
  c.requires.1,
  message_some ((let it : Message = message_of
      (parts_of c.args.version c.args.heads.now c.args.need.now c.args.bytes.now c.args.haves.now c.args.chunks.now c.args.lengths.now c.args.flags) in it)),
)

pub put_hashes-at_need-requires : goal.put_hashes-at_need-requires
put_hashes-at_need-requires c =
    let m = (let it : Message = message_of
    (parts_of c.args.version c.args.heads.now c.args.need.now c.args.bytes.now c.args.haves.now c.args.chunks.now c.args.lengths.now c.args.flags) in it) in (
      omega arith,
      putting_room _ _ _ _ _ (hash_list_bytes m.heads) (from_need m) ((let it : Putting c.args.out.now (set c.args.out.now 0 c.encode.result) 0 1 (message_bytes ((let it : Message = message_of
          (parts_of c.args.version c.args.heads.now c.args.need.now c.args.bytes.now c.args.haves.now c.args.chunks.now c.args.lengths.now c.args.flags) in it))) (from_heads ((let it : Message = message_of
          (parts_of c.args.version c.args.heads.now c.args.need.now c.args.bytes.now c.args.haves.now c.args.chunks.now c.args.lengths.now c.args.flags) in it))) = putting_type ((let it : Message = message_of
          (parts_of c.args.version c.args.heads.now c.args.need.now c.args.bytes.now c.args.haves.now c.args.chunks.now c.args.lengths.now c.args.flags) in it)) _ _ c.encode.ensures in it)) (omega (arith, c.requires.1)),
    )

pub put_hashes-at_haves-requires : goal.put_hashes-at_haves-requires
put_hashes-at_haves-requires c =
    let m = (let it : Message = message_of
    (parts_of c.args.version c.args.heads.now c.args.need.now c.args.bytes.now c.args.haves.now c.args.chunks.now c.args.lengths.now c.args.flags) in it) in (
      omega arith,
      putting_room _ _ _ _ _ (hash_list_bytes m.need) (from_haves m) ((let it : Putting c.args.out.now c.put_hashes-at_need.new.out 0 c.put_hashes-at_need.result (message_bytes ((let it : Message = message_of
          (parts_of c.args.version c.args.heads.now c.args.need.now c.args.bytes.now c.args.haves.now c.args.chunks.now c.args.lengths.now c.args.flags) in it))) (from_need ((let it : Message = message_of
          (parts_of c.args.version c.args.heads.now c.args.need.now c.args.bytes.now c.args.haves.now c.args.chunks.now c.args.lengths.now c.args.flags) in it))) = let m = (let it : Message = message_of
          (parts_of c.args.version c.args.heads.now c.args.need.now c.args.bytes.now c.args.haves.now c.args.chunks.now c.args.lengths.now c.args.flags) in it) in
          putting_on _ _ _ _ _ _ _ (hash_list_bytes m.heads) (from_need m) ((let it : Putting c.args.out.now (set c.args.out.now 0 c.encode.result) 0 1 (message_bytes ((let it : Message = message_of
          (parts_of c.args.version c.args.heads.now c.args.need.now c.args.bytes.now c.args.haves.now c.args.chunks.now c.args.lengths.now c.args.flags) in it))) (from_heads ((let it : Message = message_of
          (parts_of c.args.version c.args.heads.now c.args.need.now c.args.bytes.now c.args.haves.now c.args.chunks.now c.args.lengths.now c.args.flags) in it))) = putting_type ((let it : Message = message_of
          (parts_of c.args.version c.args.heads.now c.args.need.now c.args.bytes.now c.args.haves.now c.args.chunks.now c.args.lengths.now c.args.flags) in it)) _ _ c.encode.ensures in it)) c.put_hashes-at_need.ensures in it)) (omega (arith, c.requires.1)),
    )

pub put_haves-at_chunks-requires : goal.put_haves-at_chunks-requires
put_haves-at_chunks-requires c =
    let m = (let it : Message = message_of
    (parts_of c.args.version c.args.heads.now c.args.need.now c.args.bytes.now c.args.haves.now c.args.chunks.now c.args.lengths.now c.args.flags) in it) in (
      (message_written _ _ c.requires.0).accepted.haves,
      putting_room _ _ _ _ _ (counted have_bytes m.haves) (from_chunks m) ((let it : Putting c.args.out.now c.put_hashes-at_haves.new.out 0 c.put_hashes-at_haves.result (message_bytes ((let it : Message = message_of
          (parts_of c.args.version c.args.heads.now c.args.need.now c.args.bytes.now c.args.haves.now c.args.chunks.now c.args.lengths.now c.args.flags) in it))) (from_haves ((let it : Message = message_of
          (parts_of c.args.version c.args.heads.now c.args.need.now c.args.bytes.now c.args.haves.now c.args.chunks.now c.args.lengths.now c.args.flags) in it))) = let m = (let it : Message = message_of
          (parts_of c.args.version c.args.heads.now c.args.need.now c.args.bytes.now c.args.haves.now c.args.chunks.now c.args.lengths.now c.args.flags) in it) in
          putting_on _ _ _ _ _ _ _ (hash_list_bytes m.need) (from_haves m) ((let it : Putting c.args.out.now c.put_hashes-at_need.new.out 0 c.put_hashes-at_need.result (message_bytes ((let it : Message = message_of
          (parts_of c.args.version c.args.heads.now c.args.need.now c.args.bytes.now c.args.haves.now c.args.chunks.now c.args.lengths.now c.args.flags) in it))) (from_need ((let it : Message = message_of
          (parts_of c.args.version c.args.heads.now c.args.need.now c.args.bytes.now c.args.haves.now c.args.chunks.now c.args.lengths.now c.args.flags) in it))) = let m = (let it : Message = message_of
          (parts_of c.args.version c.args.heads.now c.args.need.now c.args.bytes.now c.args.haves.now c.args.chunks.now c.args.lengths.now c.args.flags) in it) in
          putting_on _ _ _ _ _ _ _ (hash_list_bytes m.heads) (from_need m) ((let it : Putting c.args.out.now (set c.args.out.now 0 c.encode.result) 0 1 (message_bytes ((let it : Message = message_of
          (parts_of c.args.version c.args.heads.now c.args.need.now c.args.bytes.now c.args.haves.now c.args.chunks.now c.args.lengths.now c.args.flags) in it))) (from_heads ((let it : Message = message_of
          (parts_of c.args.version c.args.heads.now c.args.need.now c.args.bytes.now c.args.haves.now c.args.chunks.now c.args.lengths.now c.args.flags) in it))) = putting_type ((let it : Message = message_of
          (parts_of c.args.version c.args.heads.now c.args.need.now c.args.bytes.now c.args.haves.now c.args.chunks.now c.args.lengths.now c.args.flags) in it)) _ _ c.encode.ensures in it)) c.put_hashes-at_need.ensures in it)) c.put_hashes-at_haves.ensures in it)) (omega (arith, c.requires.1)),
    )

pub put_chunks-at_flags-requires : goal.put_chunks-at_flags-requires
put_chunks-at_flags-requires c =
    let m = (let it : Message = message_of
    (parts_of c.args.version c.args.heads.now c.args.need.now c.args.bytes.now c.args.haves.now c.args.chunks.now c.args.lengths.now c.args.flags) in it) in (
      (message_written _ _ c.requires.0).accepted.whole,
      putting_room _ _ _ _ _ (counted prefixed_bytes m.chunks) (section_bytes m.flags) ((let it : Putting c.args.out.now c.put_haves-at_chunks.new.out 0 c.put_haves-at_chunks.result (message_bytes ((let it : Message = message_of
          (parts_of c.args.version c.args.heads.now c.args.need.now c.args.bytes.now c.args.haves.now c.args.chunks.now c.args.lengths.now c.args.flags) in it))) (from_chunks ((let it : Message = message_of
          (parts_of c.args.version c.args.heads.now c.args.need.now c.args.bytes.now c.args.haves.now c.args.chunks.now c.args.lengths.now c.args.flags) in it))) = let m = (let it : Message = message_of
          (parts_of c.args.version c.args.heads.now c.args.need.now c.args.bytes.now c.args.haves.now c.args.chunks.now c.args.lengths.now c.args.flags) in it) in
          putting_on _ _ _ _ _ _ _ (counted have_bytes m.haves) (from_chunks m) ((let it : Putting c.args.out.now c.put_hashes-at_haves.new.out 0 c.put_hashes-at_haves.result (message_bytes ((let it : Message = message_of
          (parts_of c.args.version c.args.heads.now c.args.need.now c.args.bytes.now c.args.haves.now c.args.chunks.now c.args.lengths.now c.args.flags) in it))) (from_haves ((let it : Message = message_of
          (parts_of c.args.version c.args.heads.now c.args.need.now c.args.bytes.now c.args.haves.now c.args.chunks.now c.args.lengths.now c.args.flags) in it))) = let m = (let it : Message = message_of
          (parts_of c.args.version c.args.heads.now c.args.need.now c.args.bytes.now c.args.haves.now c.args.chunks.now c.args.lengths.now c.args.flags) in it) in
          putting_on _ _ _ _ _ _ _ (hash_list_bytes m.need) (from_haves m) ((let it : Putting c.args.out.now c.put_hashes-at_need.new.out 0 c.put_hashes-at_need.result (message_bytes ((let it : Message = message_of
          (parts_of c.args.version c.args.heads.now c.args.need.now c.args.bytes.now c.args.haves.now c.args.chunks.now c.args.lengths.now c.args.flags) in it))) (from_need ((let it : Message = message_of
          (parts_of c.args.version c.args.heads.now c.args.need.now c.args.bytes.now c.args.haves.now c.args.chunks.now c.args.lengths.now c.args.flags) in it))) = let m = (let it : Message = message_of
          (parts_of c.args.version c.args.heads.now c.args.need.now c.args.bytes.now c.args.haves.now c.args.chunks.now c.args.lengths.now c.args.flags) in it) in
          putting_on _ _ _ _ _ _ _ (hash_list_bytes m.heads) (from_need m) ((let it : Putting c.args.out.now (set c.args.out.now 0 c.encode.result) 0 1 (message_bytes ((let it : Message = message_of
          (parts_of c.args.version c.args.heads.now c.args.need.now c.args.bytes.now c.args.haves.now c.args.chunks.now c.args.lengths.now c.args.flags) in it))) (from_heads ((let it : Message = message_of
          (parts_of c.args.version c.args.heads.now c.args.need.now c.args.bytes.now c.args.haves.now c.args.chunks.now c.args.lengths.now c.args.flags) in it))) = putting_type ((let it : Message = message_of
          (parts_of c.args.version c.args.heads.now c.args.need.now c.args.bytes.now c.args.haves.now c.args.chunks.now c.args.lengths.now c.args.flags) in it)) _ _ c.encode.ensures in it)) c.put_hashes-at_need.ensures in it)) c.put_hashes-at_haves.ensures in it)) c.put_haves-at_chunks.ensures in it)) (omega (arith, c.requires.1)),
    )

pub put_section-requires : goal.put_section-requires
put_section-requires c =
    putting_all _ _ _ _ _ _ ((let it : Putting c.args.out.now c.put_chunks-at_flags.new.out 0 c.put_chunks-at_flags.result (message_bytes ((let it : Message = message_of
    (parts_of c.args.version c.args.heads.now c.args.need.now c.args.bytes.now c.args.haves.now c.args.chunks.now c.args.lengths.now c.args.flags) in it))) (section_bytes ((let it : Message = message_of
    (parts_of c.args.version c.args.heads.now c.args.need.now c.args.bytes.now c.args.haves.now c.args.chunks.now c.args.lengths.now c.args.flags) in it)).flags) = let m = (let it : Message = message_of
    (parts_of c.args.version c.args.heads.now c.args.need.now c.args.bytes.now c.args.haves.now c.args.chunks.now c.args.lengths.now c.args.flags) in it) in
    putting_on _ _ _ _ _ _ _ (counted prefixed_bytes m.chunks) (section_bytes m.flags) ((let it : Putting c.args.out.now c.put_haves-at_chunks.new.out 0 c.put_haves-at_chunks.result (message_bytes ((let it : Message = message_of
    (parts_of c.args.version c.args.heads.now c.args.need.now c.args.bytes.now c.args.haves.now c.args.chunks.now c.args.lengths.now c.args.flags) in it))) (from_chunks ((let it : Message = message_of
    (parts_of c.args.version c.args.heads.now c.args.need.now c.args.bytes.now c.args.haves.now c.args.chunks.now c.args.lengths.now c.args.flags) in it))) = let m = (let it : Message = message_of
    (parts_of c.args.version c.args.heads.now c.args.need.now c.args.bytes.now c.args.haves.now c.args.chunks.now c.args.lengths.now c.args.flags) in it) in
    putting_on _ _ _ _ _ _ _ (counted have_bytes m.haves) (from_chunks m) ((let it : Putting c.args.out.now c.put_hashes-at_haves.new.out 0 c.put_hashes-at_haves.result (message_bytes ((let it : Message = message_of
    (parts_of c.args.version c.args.heads.now c.args.need.now c.args.bytes.now c.args.haves.now c.args.chunks.now c.args.lengths.now c.args.flags) in it))) (from_haves ((let it : Message = message_of
    (parts_of c.args.version c.args.heads.now c.args.need.now c.args.bytes.now c.args.haves.now c.args.chunks.now c.args.lengths.now c.args.flags) in it))) = let m = (let it : Message = message_of
    (parts_of c.args.version c.args.heads.now c.args.need.now c.args.bytes.now c.args.haves.now c.args.chunks.now c.args.lengths.now c.args.flags) in it) in
    putting_on _ _ _ _ _ _ _ (hash_list_bytes m.need) (from_haves m) ((let it : Putting c.args.out.now c.put_hashes-at_need.new.out 0 c.put_hashes-at_need.result (message_bytes ((let it : Message = message_of
    (parts_of c.args.version c.args.heads.now c.args.need.now c.args.bytes.now c.args.haves.now c.args.chunks.now c.args.lengths.now c.args.flags) in it))) (from_need ((let it : Message = message_of
    (parts_of c.args.version c.args.heads.now c.args.need.now c.args.bytes.now c.args.haves.now c.args.chunks.now c.args.lengths.now c.args.flags) in it))) = let m = (let it : Message = message_of
    (parts_of c.args.version c.args.heads.now c.args.need.now c.args.bytes.now c.args.haves.now c.args.chunks.now c.args.lengths.now c.args.flags) in it) in
    putting_on _ _ _ _ _ _ _ (hash_list_bytes m.heads) (from_need m) ((let it : Putting c.args.out.now (set c.args.out.now 0 c.encode.result) 0 1 (message_bytes ((let it : Message = message_of
    (parts_of c.args.version c.args.heads.now c.args.need.now c.args.bytes.now c.args.haves.now c.args.chunks.now c.args.lengths.now c.args.flags) in it))) (from_heads ((let it : Message = message_of
    (parts_of c.args.version c.args.heads.now c.args.need.now c.args.bytes.now c.args.haves.now c.args.chunks.now c.args.lengths.now c.args.flags) in it))) = putting_type ((let it : Message = message_of
    (parts_of c.args.version c.args.heads.now c.args.need.now c.args.bytes.now c.args.haves.now c.args.chunks.now c.args.lengths.now c.args.flags) in it)) _ _ c.encode.ensures in it)) c.put_hashes-at_need.ensures in it)) c.put_hashes-at_haves.ensures in it)) c.put_haves-at_chunks.ensures in it)) c.put_chunks-at_flags.ensures in it)) (omega (arith, c.requires.1))

pub shape_of-out : goal.shape_of-out
shape_of-out c = put_long _ _ _ _ _ ((let it : Put c.args.out.now c.put_section.new.out 0 (message_bytes ((let it : Message = message_of
    (parts_of c.args.version c.args.heads.now c.args.need.now c.args.bytes.now c.args.haves.now c.args.chunks.now c.args.lengths.now c.args.flags) in it))) c.put_section.result = putting_last _ _ _ _ _ _ _ _ ((let it : Putting c.args.out.now c.put_chunks-at_flags.new.out 0 c.put_chunks-at_flags.result (message_bytes ((let it : Message = message_of
    (parts_of c.args.version c.args.heads.now c.args.need.now c.args.bytes.now c.args.haves.now c.args.chunks.now c.args.lengths.now c.args.flags) in it))) (section_bytes ((let it : Message = message_of
    (parts_of c.args.version c.args.heads.now c.args.need.now c.args.bytes.now c.args.haves.now c.args.chunks.now c.args.lengths.now c.args.flags) in it)).flags) = let m = (let it : Message = message_of
    (parts_of c.args.version c.args.heads.now c.args.need.now c.args.bytes.now c.args.haves.now c.args.chunks.now c.args.lengths.now c.args.flags) in it) in
    putting_on _ _ _ _ _ _ _ (counted prefixed_bytes m.chunks) (section_bytes m.flags) ((let it : Putting c.args.out.now c.put_haves-at_chunks.new.out 0 c.put_haves-at_chunks.result (message_bytes ((let it : Message = message_of
    (parts_of c.args.version c.args.heads.now c.args.need.now c.args.bytes.now c.args.haves.now c.args.chunks.now c.args.lengths.now c.args.flags) in it))) (from_chunks ((let it : Message = message_of
    (parts_of c.args.version c.args.heads.now c.args.need.now c.args.bytes.now c.args.haves.now c.args.chunks.now c.args.lengths.now c.args.flags) in it))) = let m = (let it : Message = message_of
    (parts_of c.args.version c.args.heads.now c.args.need.now c.args.bytes.now c.args.haves.now c.args.chunks.now c.args.lengths.now c.args.flags) in it) in
    putting_on _ _ _ _ _ _ _ (counted have_bytes m.haves) (from_chunks m) ((let it : Putting c.args.out.now c.put_hashes-at_haves.new.out 0 c.put_hashes-at_haves.result (message_bytes ((let it : Message = message_of
    (parts_of c.args.version c.args.heads.now c.args.need.now c.args.bytes.now c.args.haves.now c.args.chunks.now c.args.lengths.now c.args.flags) in it))) (from_haves ((let it : Message = message_of
    (parts_of c.args.version c.args.heads.now c.args.need.now c.args.bytes.now c.args.haves.now c.args.chunks.now c.args.lengths.now c.args.flags) in it))) = let m = (let it : Message = message_of
    (parts_of c.args.version c.args.heads.now c.args.need.now c.args.bytes.now c.args.haves.now c.args.chunks.now c.args.lengths.now c.args.flags) in it) in
    putting_on _ _ _ _ _ _ _ (hash_list_bytes m.need) (from_haves m) ((let it : Putting c.args.out.now c.put_hashes-at_need.new.out 0 c.put_hashes-at_need.result (message_bytes ((let it : Message = message_of
    (parts_of c.args.version c.args.heads.now c.args.need.now c.args.bytes.now c.args.haves.now c.args.chunks.now c.args.lengths.now c.args.flags) in it))) (from_need ((let it : Message = message_of
    (parts_of c.args.version c.args.heads.now c.args.need.now c.args.bytes.now c.args.haves.now c.args.chunks.now c.args.lengths.now c.args.flags) in it))) = let m = (let it : Message = message_of
    (parts_of c.args.version c.args.heads.now c.args.need.now c.args.bytes.now c.args.haves.now c.args.chunks.now c.args.lengths.now c.args.flags) in it) in
    putting_on _ _ _ _ _ _ _ (hash_list_bytes m.heads) (from_need m) ((let it : Putting c.args.out.now (set c.args.out.now 0 c.encode.result) 0 1 (message_bytes ((let it : Message = message_of
    (parts_of c.args.version c.args.heads.now c.args.need.now c.args.bytes.now c.args.haves.now c.args.chunks.now c.args.lengths.now c.args.flags) in it))) (from_heads ((let it : Message = message_of
    (parts_of c.args.version c.args.heads.now c.args.need.now c.args.bytes.now c.args.haves.now c.args.chunks.now c.args.lengths.now c.args.flags) in it))) = putting_type ((let it : Message = message_of
    (parts_of c.args.version c.args.heads.now c.args.need.now c.args.bytes.now c.args.haves.now c.args.chunks.now c.args.lengths.now c.args.flags) in it)) _ _ c.encode.ensures in it)) c.put_hashes-at_need.ensures in it)) c.put_hashes-at_haves.ensures in it)) c.put_haves-at_chunks.ensures in it)) c.put_chunks-at_flags.ensures in it)) c.put_section.ensures in it))

pub returns : goal.returns
returns c = ((let it : Put c.args.out.now c.put_section.new.out 0 (message_bytes ((let it : Message = message_of
    (parts_of c.args.version c.args.heads.now c.args.need.now c.args.bytes.now c.args.haves.now c.args.chunks.now c.args.lengths.now c.args.flags) in it))) c.put_section.result = putting_last _ _ _ _ _ _ _ _ ((let it : Putting c.args.out.now c.put_chunks-at_flags.new.out 0 c.put_chunks-at_flags.result (message_bytes ((let it : Message = message_of
    (parts_of c.args.version c.args.heads.now c.args.need.now c.args.bytes.now c.args.haves.now c.args.chunks.now c.args.lengths.now c.args.flags) in it))) (section_bytes ((let it : Message = message_of
    (parts_of c.args.version c.args.heads.now c.args.need.now c.args.bytes.now c.args.haves.now c.args.chunks.now c.args.lengths.now c.args.flags) in it)).flags) = let m = (let it : Message = message_of
    (parts_of c.args.version c.args.heads.now c.args.need.now c.args.bytes.now c.args.haves.now c.args.chunks.now c.args.lengths.now c.args.flags) in it) in
    putting_on _ _ _ _ _ _ _ (counted prefixed_bytes m.chunks) (section_bytes m.flags) ((let it : Putting c.args.out.now c.put_haves-at_chunks.new.out 0 c.put_haves-at_chunks.result (message_bytes ((let it : Message = message_of
    (parts_of c.args.version c.args.heads.now c.args.need.now c.args.bytes.now c.args.haves.now c.args.chunks.now c.args.lengths.now c.args.flags) in it))) (from_chunks ((let it : Message = message_of
    (parts_of c.args.version c.args.heads.now c.args.need.now c.args.bytes.now c.args.haves.now c.args.chunks.now c.args.lengths.now c.args.flags) in it))) = let m = (let it : Message = message_of
    (parts_of c.args.version c.args.heads.now c.args.need.now c.args.bytes.now c.args.haves.now c.args.chunks.now c.args.lengths.now c.args.flags) in it) in
    putting_on _ _ _ _ _ _ _ (counted have_bytes m.haves) (from_chunks m) ((let it : Putting c.args.out.now c.put_hashes-at_haves.new.out 0 c.put_hashes-at_haves.result (message_bytes ((let it : Message = message_of
    (parts_of c.args.version c.args.heads.now c.args.need.now c.args.bytes.now c.args.haves.now c.args.chunks.now c.args.lengths.now c.args.flags) in it))) (from_haves ((let it : Message = message_of
    (parts_of c.args.version c.args.heads.now c.args.need.now c.args.bytes.now c.args.haves.now c.args.chunks.now c.args.lengths.now c.args.flags) in it))) = let m = (let it : Message = message_of
    (parts_of c.args.version c.args.heads.now c.args.need.now c.args.bytes.now c.args.haves.now c.args.chunks.now c.args.lengths.now c.args.flags) in it) in
    putting_on _ _ _ _ _ _ _ (hash_list_bytes m.need) (from_haves m) ((let it : Putting c.args.out.now c.put_hashes-at_need.new.out 0 c.put_hashes-at_need.result (message_bytes ((let it : Message = message_of
    (parts_of c.args.version c.args.heads.now c.args.need.now c.args.bytes.now c.args.haves.now c.args.chunks.now c.args.lengths.now c.args.flags) in it))) (from_need ((let it : Message = message_of
    (parts_of c.args.version c.args.heads.now c.args.need.now c.args.bytes.now c.args.haves.now c.args.chunks.now c.args.lengths.now c.args.flags) in it))) = let m = (let it : Message = message_of
    (parts_of c.args.version c.args.heads.now c.args.need.now c.args.bytes.now c.args.haves.now c.args.chunks.now c.args.lengths.now c.args.flags) in it) in
    putting_on _ _ _ _ _ _ _ (hash_list_bytes m.heads) (from_need m) ((let it : Putting c.args.out.now (set c.args.out.now 0 c.encode.result) 0 1 (message_bytes ((let it : Message = message_of
    (parts_of c.args.version c.args.heads.now c.args.need.now c.args.bytes.now c.args.haves.now c.args.chunks.now c.args.lengths.now c.args.flags) in it))) (from_heads ((let it : Message = message_of
    (parts_of c.args.version c.args.heads.now c.args.need.now c.args.bytes.now c.args.haves.now c.args.chunks.now c.args.lengths.now c.args.flags) in it))) = putting_type ((let it : Message = message_of
    (parts_of c.args.version c.args.heads.now c.args.need.now c.args.bytes.now c.args.haves.now c.args.chunks.now c.args.lengths.now c.args.flags) in it)) _ _ c.encode.ensures in it)) c.put_hashes-at_need.ensures in it)) c.put_hashes-at_haves.ensures in it)) c.put_haves-at_chunks.ensures in it)) c.put_chunks-at_flags.ensures in it)) c.put_section.ensures in it)).content
