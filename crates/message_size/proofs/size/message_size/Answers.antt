-- `message_size::size::message_size` meets its contract: the tests in their order, and then the sum of all parts. Assumes nothing.
use Prim.Native.Nat.{◌≤◌}
use mathlib.Core.Path.{◌≡◌, sym, ◌∙◌}
use native.Mathlib.Omega.{arith}
use Rattle.bloom.specs.Have.{GoodHaves}
use Rattle.rules.proofs.Cases.{handed_on}
use Rattle.rules.specs.Output.{size_of}
use Rattle.message_size.proofs.SizeLaws.{most_haves}
use Rattle.message_size.proofs.WriteLaws.{lists_output, chunks_output, sized_lists, sized_chunks, sized_past, sized_all, first_small, chunks_are, middle_small, section_small, sized_haves}
use Rattle.message_size.proofs.size.message_size.Goals as goal
use Rattle.std.specs.Prelude.{Ok}

pub overflow_add-whole : goal.overflow_add-whole
overflow_add-whole c =
    let first : size_of (lists_output c.args.heads.now c.args.need.now c.args.bytes.now c.args.haves.now) ≡ Ok c.in_ok-first.first = sym c.in_ok-first.ensures in
    omega (arith, first_small _ _ _ _ _ first)

pub haves_size-requires : goal.haves_size-requires
haves_size-requires c =
    let first : size_of (lists_output c.args.heads.now c.args.need.now c.args.bytes.now c.args.haves.now) ≡ Ok c.in_ok-first.first = sym c.in_ok-first.ensures in
    let last : size_of (chunks_output c.args.haves.now c.args.chunks.now c.args.lengths.now) ≡ Ok c.in_ok-last.last = sym c.in_ok-last.ensures in
    sized_haves _ _ _ _ _ _ _ _ first last

pub overflow_add-whole-2 : goal.overflow_add-whole-2
overflow_add-whole-2 c =
    let first : size_of (lists_output c.args.heads.now c.args.need.now c.args.bytes.now c.args.haves.now) ≡ Ok c.in_ok-first.first = sym c.in_ok-first.ensures in
    let last : size_of (chunks_output c.args.haves.now c.args.chunks.now c.args.lengths.now) ≡ Ok c.in_ok-last.last = sym c.in_ok-last.ensures in
    let good : GoodHaves c.args.bytes.now c.args.haves.now = sized_haves _ _ _ _ _ _ _ _ first last in
    let middle : c.haves_size.result ≤ most_haves = middle_small _ _ _ good c.haves_size.ensures in
    omega (arith, first_small _ _ _ _ _ first, middle)

pub overflow_add-whole-3 : goal.overflow_add-whole-3
overflow_add-whole-3 c =
    let first : size_of (lists_output c.args.heads.now c.args.need.now c.args.bytes.now c.args.haves.now) ≡ Ok c.in_ok-first.first = sym c.in_ok-first.ensures in
    let last : size_of (chunks_output c.args.haves.now c.args.chunks.now c.args.lengths.now) ≡ Ok c.in_ok-last.last = sym c.in_ok-last.ensures in
    let good : GoodHaves c.args.bytes.now c.args.haves.now = sized_haves _ _ _ _ _ _ _ _ first last in
    let middle : c.haves_size.result ≤ most_haves = middle_small _ _ _ good c.haves_size.ensures in
    omega (arith, first_small _ _ _ _ _ first, middle, (chunks_are _ _ _ _ last).small)

pub overflow_add-whole-4 : goal.overflow_add-whole-4
overflow_add-whole-4 c =
    let first : size_of (lists_output c.args.heads.now c.args.need.now c.args.bytes.now c.args.haves.now) ≡ Ok c.in_ok-first.first = sym c.in_ok-first.ensures in
    let last : size_of (chunks_output c.args.haves.now c.args.chunks.now c.args.lengths.now) ≡ Ok c.in_ok-last.last = sym c.in_ok-last.ensures in
    let good : GoodHaves c.args.bytes.now c.args.haves.now = sized_haves _ _ _ _ _ _ _ _ first last in
    let middle : c.haves_size.result ≤ most_haves = middle_small _ _ _ good c.haves_size.ensures in
    omega (arith, first_small _ _ _ _ _ first, middle, (chunks_are _ _ _ _ last).small, section_small _ _ c.section_size.ensures)

pub returns-then-whole-gt-MESSAGE_SIZE : goal.returns-then-whole-gt-MESSAGE_SIZE
returns-then-whole-gt-MESSAGE_SIZE c =
    let first : size_of (lists_output c.args.heads.now c.args.need.now c.args.bytes.now c.args.haves.now) ≡ Ok c.in_ok-first.first = sym c.in_ok-first.ensures in
    let last : size_of (chunks_output c.args.haves.now c.args.chunks.now c.args.lengths.now) ≡ Ok c.in_ok-last.last = sym c.in_ok-last.ensures in
    sized_past _ _ _ _ _ _ _ _ first _ last _ _ c.haves_size.ensures c.section_size.ensures c.if-whole-gt-MESSAGE_SIZE.true

pub returns : goal.returns
returns c =
    let first : size_of (lists_output c.args.heads.now c.args.need.now c.args.bytes.now c.args.haves.now) ≡ Ok c.in_ok-first.first = sym c.in_ok-first.ensures in
    let last : size_of (chunks_output c.args.haves.now c.args.chunks.now c.args.lengths.now) ≡ Ok c.in_ok-last.last = sym c.in_ok-last.ensures in
    sized_all _ _ _ _ _ _ _ _ first _ last _ _ c.haves_size.ensures c.section_size.ensures c.if-whole-gt-MESSAGE_SIZE.false

pub returns-in_err-last : goal.returns-in_err-last
returns-in_err-last c =
    rw (handed_on c.from_residual-in_err-last.ensures.1)
    (let first : size_of (lists_output c.args.heads.now c.args.need.now c.args.bytes.now c.args.haves.now) ≡ Ok c.in_ok-first.first = sym c.in_ok-first.ensures in
    sized_chunks _ _ _ _ _ _ _ _ first _ (sym c.in_err-last.ensures))

pub returns-in_err-first : goal.returns-in_err-first
returns-in_err-first c =
    rw (handed_on c.from_residual.ensures.1)
    (sized_lists _ _ _ _ _ _ _ _ (sym c.in_err-first.ensures))
