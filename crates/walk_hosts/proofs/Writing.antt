-- What a host reads in the words and buffers of a plan is the plan, and what is written over them and the chunks that it lends is the plan's message, within
-- its size, or nothing. Assumes nothing.
use Prim.Native.Nat.{ℕ, ◌+◌, ◌*◌, ◌/◌, ◌≤◌, ◌<◌}
use mathlib.Core.Bool.{Bool, true, false}
use mathlib.Core.List.{List, [], ◌∷◌}
use mathlib.Core.Path.{◌≡◌, refl, sym, ap, ◌∙◌}
use native.Mathlib.Nat.{zero-add}
use native.Mathlib.Omega.{arith}
use borrow.Author.Tests.{le-ltb}
use lib.Dec.{eqb}
use lib.ListN.{length, get_or, take}
use lib.Seq.{sets, slice, take-length}
use Rattle.call_words.specs.Answer.{refusal_words, write_words}
use Rattle.bloom.specs.Have.{Have, haves_of}
use Rattle.session.specs.Kept.{StandHaves}
use Rattle.session.proofs.Stands.{stand_haves_sets}
use Rattle.walk_hosts.specs.Memory.{RoomyOut}
use Rattle.walk_hosts.proofs.Rooms.{Fine, laid_small}
use Rattle.message.specs.Message.{message_bytes}
use Rattle.message.specs.declared.version.MessageVersion.{MessageVersion}
use Rattle.message.specs.declared.version.MessageVersion.TheVariants.{V1, V2}
use Rattle.message.specs.Write.{Parts, parts_of, hashes_of, chunks_from, message_of, message_output}
use Rattle.message_calls.specs.MessageWords.{version_of, section_of}
use Rattle.message_calls.proofs.MessageLaws.{section_there}
use Rattle.session.specs.PlanCall.{Buffers, stated_of}
use Rattle.rules.specs.Hash.{AreHashes, hashes_at, hashes_bytes}
use Rattle.rules.specs.Output.{Output, answer_of, content_of}
use Rattle.rules.specs.Passed.{passed_hashes}
use Rattle.rules.specs.Refusal.{number_of}
use Rattle.rules.specs.Sizes.{sizes}
use Rattle.rules.specs.declared.refusal.Refusal.{Refusal}
use Rattle.rules.specs.declared.refusal.Refusal.TheVariants.{Cut, WrongType, BadNumber, PastSize, NoBits, BadRow, NoRoom, LoadFailed, BadWaitingRow, BadNumbers, BadRowsBefore, BadIndex, TooWide, BadSettings, BadSetting, PastTotal, BadPick}
use Rattle.rules.proofs.Hash.{length_hashes_bytes, hashes_there_and_back}
use Rattle.rules.proofs.Outputs.{take_sets, written_gathered}
use Rattle.rules.proofs.PassedLaws.{passed_whole}
use Rattle.session.specs.Laid.{laid_from, laid_words}
use Rattle.session.specs.Plan.{Plan}
use Rattle.session.proofs.LaidLaws.{laid_length_words}
use Rattle.plan_calls.specs.PlanWords.{version_number, stated_words}
use Rattle.call_words.specs.SessionWords.{flag_word, flag_of}
use Rattle.message_size.proofs.WriteLaws.{PartsAccepted, message_written, accepted_written}
use Rattle.message_size.proofs.SizeLaws.{chunks_long}
use Rattle.session_state.specs.Value.{kept_haves}
use Rattle.walk_hosts.specs.Calls.{have_words_in, plan_in, WriteMade}
use Rattle.walk_hosts.proofs.Planning.{PlanPut}
use Rattle.session.specs.Written.{Host, chunks_for, message_for}
use Rattle.session.proofs.WrittenLaws.{chunks_few}
use Rattle.std.specs.Prelude.{Ok, Some}

-- ---- words

version_read : (v : MessageVersion) → version_of (version_number v) ≡ v
unfolding version_of
version_read V1 = refl
version_read V2 = refl

flag_read : (b : Bool) → flag_of (flag_word b) ≡ b
flag_read true = refl
flag_read false = refl

-- no refusal's number is 0
pub number_some : (r : Refusal) → eqb (number_of r) 0 ≡ false
number_some (Cut place) = refl
number_some (WrongType byte) = refl
number_some (BadNumber place) = refl
number_some (PastSize place) = refl
number_some (NoBits place) = refl
number_some (BadRow row) = refl
number_some (NoRoom wanted) = refl
number_some LoadFailed = refl
number_some (BadWaitingRow row) = refl
number_some BadNumbers = refl
number_some BadRowsBefore = refl
number_some BadIndex = refl
number_some (TooWide row) = refl
number_some (BadSettings i) = refl
number_some BadSetting = refl
number_some PastTotal = refl
number_some (BadPick place) = refl

-- the words of the have are its record
records_read : (what : ℕ) (q : Plan) (vs : List Have) → q.haves ≡ vs → length vs ≤ 1 → have_words_in (stated_words what (stated_of q)) ≡ laid_words vs
unfolding laid_words laid_from
records_read what q [] e one = rw e
records_read what q (v ∷ []) e one = rw (e, zero-add (sizes.hash * length v.last_sync))
records_read what q (v ∷ y ∷ vs) e one = absurd (omega arith)

laid_again : (vs : List Have) → kept_haves (sets (laid_words vs) 0 (laid_words vs)) (length vs) ≡ laid_words vs
laid_again vs = rw (laid_length_words vs) at (take_sets (laid_words vs) (laid_words vs) (omega arith))

-- ---- what stands in the buffers

-- the bytes that are passed on are the hashes'
passed_bytes : (hs before : List ℕ) → sizes.hash * length hs ≤ length before → take (sizes.hash * length hs) (sets before 0 (hashes_bytes hs)) ≡ hashes_bytes hs
passed_bytes hs before fits =
    rw (length_hashes_bytes hs) at (take_sets (hashes_bytes hs) before (rw (length_hashes_bytes hs) fits))

bytes_hashes : (hs : List ℕ) → AreHashes hs → hashes_of (hashes_bytes hs) ≡ hs
bytes_hashes hs are =
    let many : length (hashes_bytes hs) / sizes.hash ≡ length hs = rw (length_hashes_bytes hs) (omega arith) in
    let whole : slice 0 (0 + sizes.hash * length hs) (hashes_bytes hs) ≡ hashes_bytes hs =
    rw (zero-add, ← length_hashes_bytes hs) (take-length (hashes_bytes hs))
    in
    rw many (hashes_there_and_back (hashes_bytes hs) 0 hs are whole)

bytes_passed : (hs : List ℕ) → length hs ≤ sizes.hashes → passed_hashes (hashes_bytes hs) ≡ Ok (length (hashes_bytes hs) / sizes.hash)
bytes_passed hs few =
    passed_whole (hashes_bytes hs) (rw (length_hashes_bytes hs) (omega arith)) (rw (length_hashes_bytes hs) (omega arith))

module _ (q : Plan) (fine : Fine q) (o o' : Buffers) (wide : RoomyOut o) (put : PlanPut q o o') (what : ℕ) (answer : List ℕ)
    (is : answer ≡ stated_words what (stated_of q)) where
  haves_stand : StandHaves q.haves (sets (laid_words q.haves) 0 (laid_words q.haves)) o'.have
  haves_stand =
      rw put.have
      (stand_haves_sets (laid_words q.haves) o.have q.haves fine.haves (omega (arith, laid_length_words q.haves))
      (omega (arith, laid_small q.haves fine.haves.each, fine.one, wide.have)))

  records_are : have_words_in answer ≡ kept_haves (sets (laid_words q.haves) 0 (laid_words q.haves)) (length q.haves)
  records_are = rw (is, laid_again q.haves) (records_read what q q.haves refl fine.one)

  haves_are : haves_of o'.have (have_words_in answer) ≡ q.haves
  haves_are = rw records_are haves_stand.are

  heads_fit : sizes.hash * length q.heads ≤ length o.heads
  heads_fit = omega (arith, fine.heads.few, wide.heads)

  need_fit : sizes.hash * length q.need ≤ length o.need
  need_fit = omega (arith, fine.need.few, wide.need)

  list_fit : sizes.hash * length q.body.hashes ≤ length o.list
  list_fit = omega (arith, fine.few, wide.list)

  heads_are : hashes_at o'.heads 0 (length q.heads) ≡ q.heads
  heads_are = rw put.heads (written_gathered q.heads o.heads fine.heads.are heads_fit).list

  need_are : hashes_at o'.need 0 (length q.need) ≡ q.need
  need_are = rw put.need (written_gathered q.need o.need fine.need.are need_fit).list

  list_are : hashes_at o'.list 0 (length q.body.hashes) ≡ q.body.hashes
  list_are = rw put.list (written_gathered q.body.hashes o.list fine.are list_fit).list

  -- a host reads the plan
  pub plan_read : plan_in answer o' ≡ q
  plan_read = rw haves_are (rw is (rw (version_read q.version, flag_read q.body.document, heads_are, need_are, list_are)))

  -- ---- the message

  module _ (host : Host) (written message : List ℕ) (made : WriteMade host answer o' written message) where
    -- the parts as they are passed, and as the plan has them
    abbrev passed : Parts
    passed =
        parts_of (version_of (get_or answer 2 0)) (take (sizes.hash * get_or answer 5 0) o'.heads) (take (sizes.hash * get_or answer 6 0) o'.need) o'.have
        (have_words_in answer) made.chunks made.lengths (section_of (get_or answer 3 0))

    abbrev parts : Parts
    parts =
        parts_of q.version (hashes_bytes q.heads) (hashes_bytes q.need) o'.have (have_words_in answer) made.chunks made.lengths (Some q.flags)

    version_is : version_of (get_or answer 2 0) ≡ q.version
    version_is = rw is (version_read q.version)

    section_is : section_of (get_or answer 3 0) ≡ Some q.flags
    section_is = rw is (sym (section_there q.flags.0 fine.flags))

    heads_passed : take (sizes.hash * get_or answer 5 0) o'.heads ≡ hashes_bytes q.heads
    heads_passed = rw (is, put.heads) (passed_bytes q.heads o.heads heads_fit)

    need_passed : take (sizes.hash * get_or answer 6 0) o'.need ≡ hashes_bytes q.need
    need_passed = rw (is, put.need) (passed_bytes q.need o.need need_fit)

    parts_are : passed ≡ parts
    parts_are = rw (version_is, section_is, heads_passed, need_passed)

    chunks_are : chunks_from made.chunks 0 made.lengths ≡ chunks_for host q
    chunks_are = made.lends ∙ ap (chunks_for host) plan_read

    message_of_lem : message_of parts ≡ message_for host q
    unfolding message_for
    message_of_lem = rw (bytes_hashes q.heads fine.heads.are, bytes_hashes q.need fine.need.are, haves_are, chunks_are)

    accepted : PartsAccepted parts
    accepted =
        let few : length (chunks_from made.chunks 0 made.lengths) ≤ sizes.chunks = rw chunks_are (chunks_few host q fine.few) in
        record {
          haves = record { good = rw records_are haves_stand.good; few = rw records_are haves_stand.few };
          heads = bytes_passed q.heads fine.heads.few;
          need = bytes_passed q.need fine.need.few;
          few = rw (chunks_long made.chunks made.lengths 0) at few;
          whole = made.whole;
        }

    abbrev said : List ℕ
    said = message_bytes (message_for host q)

    output_is : length said ≤ sizes.message → message_output passed ≡ Output.bytes said
    output_is small =
        rw (parts_are, ← message_of_lem) (accepted_written parts accepted (rw message_of_lem small))

    -- a message within its size is written
    pub record Wrote : Type 0 where
      pub message_is : message ≡ said
      pub fine_answer : get_or written 0 0 ≡ 0

    pub write_small : length said ≤ sizes.message → Wrote
    write_small small =
        let fits : length said ≤ length made.before = omega (arith, made.room) in
        let out = output_is small in
        let words : written ≡ 0 ∷ length said ∷ 0 ∷ 0 ∷ [] =
        made.call.answer ∙ ap (λ (x : Output). write_words (answer_of x (length made.before))) out ∙ rw (le-ltb _ _ fits)
        in
        let content : made.after ≡ sets made.before 0 said =
        made.call.content ∙ ap (λ (x : Output). content_of x made.before) out ∙ rw (le-ltb _ _ fits)
        in
        record {
          message_is = made.message_is ∙ rw (words, content) (take_sets said made.before fits);
          fine_answer = rw words;
        }

    -- one past its size isn't
    pub write_long : sizes.message < length said → message ≡ []
    write_long long = outcome (message_output passed) refl
      where
        outcome : (x : Output) → message_output passed ≡ x → message ≡ []
        outcome (Output.bytes l) e =
            let done = message_written passed l e in
            let same : l ≡ said = done.is ∙ ap (λ (p : Parts). message_bytes (message_of p)) parts_are ∙ ap message_bytes message_of_lem in
            absurd (omega (arith, done.small, ap length same))
        outcome (Output.refuse r) e =
            let words : written ≡ refusal_words r = made.call.answer ∙ ap (λ (x : Output). write_words (answer_of x (length made.before))) e in
            made.message_is ∙ rw (words, number_some r)
