-- What heads a message brings: what each test leaves; that the answer is the full read's wherever that accepts; that a refusal but 7 is its refusal; and
-- that no byte behind the heads has a say.
use Prim.Native.Nat.{ℕ, ◌+◌, ◌-◌, ◌*◌, ◌≤◌, ◌<◌}
use mathlib.Core.List.{List, ◌∷◌, ◌++◌}
use mathlib.Core.Path.{◌≡◌, refl, sym, ◌∙◌, ap}
use native.Mathlib.Omega.{arith}
use borrow.Author.Tests.{lt-ltb, le-ltb}
use lib.Dec.{ltb}
use lib.ListN.{length, get_or, take, drop, length-take}
use lib.Seq.{slice, sets, sets-eq, take_at, drop_at, length-slice, length-take-le}
use Rattle.bloom.proofs.Filters.{slice_parted}
use Rattle.message.specs.Message.{Message, type_of}
use Rattle.message.specs.declared.version.MessageVersion.{MessageVersion}
use Rattle.message.specs.declared.version.MessageVersion.TheVariants.{V1, V2}
use Rattle.rules.specs.Hash.{Bytes, hashes_at, hashes_bytes}
use Rattle.rules.specs.Sizes.{sizes}
use Rattle.rules.specs.declared.refusal.Refusal.{Refusal}
use Rattle.rules.specs.declared.refusal.Refusal.TheVariants.{NoRoom}
use Rattle.rules.proofs.Cases.{split}
use Rattle.rules.proofs.Hash.{take_drop, length_hashes_at, hashes_are_hashes, hashes_at_bytes, hashes_there_and_back}
use Rattle.leb128.proofs.Number.{slice_next}
use Rattle.wire.specs.Item.{run, hash_list_at, hash_list_bytes}
use Rattle.wire.specs.declared.parse.Run.{Run}
use Rattle.wire.proofs.Item.{HashesInside, hash_list_inside, written_hash_list, hash_list_written}
use Rattle.message_read.specs.MessageRead.{read, refused, opening_at, message_at, message_in, read_with, room_for}
use Rattle.message_read.specs.declared.parse.Places.{Places}
use Rattle.message_read.proofs.Messages.{opening_behind}
use Rattle.message_read.proofs.ReadLaws.{heads_read, opening_first, opening_second, message_refused, message_behind}
use Rattle.message_peek.specs.Peek.{peeked_of, heads_into, peeked_at, PeekedInto}
use Rattle.std.specs.Prelude.{Result, Ok, Err}

-- ---- what each test leaves

module _ (s before : List ℕ) where
  pub peek_gone : (r : Refusal) → opening_at s ≡ Err r → PeekedInto s before before (Err r)
  unfolding peeked_of heads_into
  peek_gone r e = record { answer = rw e; content = rw e }

  module _ (version : MessageVersion) (start count next : ℕ) (is : opening_at s ≡ Ok (version, run start count, next)) where
    pub heads_inside : HashesInside s 1 (length s) (run start count) next
    heads_inside =
        hash_list_inside s 1 (length s) (run start count) next (opening_behind s version (run start count) next is).list

    pub peek_short : length before < sizes.hash * count → PeekedInto s before before (Err (NoRoom (sizes.hash * count)))
    unfolding peeked_of heads_into
    peek_short h = record { answer = rw (is, lt-ltb _ _ h); content = rw (is, lt-ltb _ _ h) }

    pub part_is : take (next - start) (drop start s) ≡ slice start next s
    part_is =
        let e : start + (next - start) ≡ next = omega (arith, heads_inside.whole) in
        rw (take_drop (next - start) start s, e)

    pub part_long : length (take (next - start) (drop start s)) ≡ sizes.hash * count
    part_long = rw (part_is, length-slice start next s heads_inside.there) (omega (arith, heads_inside.whole))

    pub peek_heads : (after : List ℕ) → sizes.hash * count ≤ length before → after ≡ sets before 0 (take (next - start) (drop start s))
        → PeekedInto s before after (Ok (version, count))
    unfolding peeked_of heads_into
    peek_heads after h q = record { answer = rw (is, le-ltb _ _ h); content = rw (is, le-ltb _ _ h, ← part_is) q }

-- One answer, and one content of the buffer.
pub peeked_once : {s before a₁ a₂ : List ℕ} {r₁ r₂ : Result (MessageVersion × ℕ) Refusal} → PeekedInto s before a₁ r₁ → PeekedInto s before a₂ r₂ → (r₁ ≡ r₂) × (a₁ ≡ a₂)
peeked_once w v = (w.answer ∙ sym v.answer, w.content ∙ sym v.content)

-- ---- beside the full read

-- the heads of a message that was opened, copied to the start of a buffer with room for them
copied : (s before after : List ℕ) (version : MessageVersion) (heads : Run) (next : ℕ) (r : Result (MessageVersion × ℕ) Refusal) → opening_at s ≡ Ok (version, heads, next)
    → sizes.hash * heads.count ≤ length before
    → PeekedInto s before after r
    → (r ≡ Ok (version, heads.count)) × (after ≡ sets before 0 (slice heads.start next s))
unfolding peeked_of heads_into
copied s before after version heads next r is h p = (rw (is, le-ltb _ _ h) at p.answer, rw (is, le-ltb _ _ h) at p.content)

-- The answer is a message's version and heads: the heads stand at the buffer's start, and what stands behind them is as it was.
pub record PeekAgrees (m : Message) (before after : List ℕ) (r : Result (MessageVersion × ℕ) Refusal) : Type 0 where
  pub answer : r ≡ Ok (m.version, length m.heads)
  pub heads : hashes_at after 0 (length m.heads) ≡ m.heads
  pub rest : drop (sizes.hash * length m.heads) after ≡ drop (sizes.hash * length m.heads) before

-- Whenever the full read accepts, this answer, given room, is its version and heads.
pub peek_agrees : (s : List ℕ) → Bytes s → (p : Places) (haves chunks : List ℕ) → message_at s ≡ read p haves chunks
    → (before after : List ℕ) (r : Result (MessageVersion × ℕ) Refusal)
    → sizes.hash * p.heads.count ≤ length before
    → PeekedInto s before after r
    → PeekAgrees (message_in s p haves chunks) before after r
unfolding message_in
peek_agrees s all p haves chunks e before after r room q =
    let b = message_behind s p haves chunks e in
    let start : ℕ = p.heads.start in
    let count : ℕ = p.heads.count in
    let next : ℕ = b.at_need in
    let o = opening_behind s p.version p.heads next b.opening in
    let w = hash_list_inside s 1 (length s) p.heads next o.list in
    let hs : List ℕ = hashes_at s start count in
    let many : length hs ≡ count = length_hashes_at s start count in
    let got = copied s before after p.version p.heads next r b.opening room q in
    let part : List ℕ = slice start next s in
    let long : length part ≡ sizes.hash * count = length-slice start next s w.there ∙ omega (arith, w.whole) in
    let fits : 0 + length part ≤ length before = omega arith in
    let whole : after ≡ part ++ drop (0 + length part) before = got.1 ∙ sets-eq part before 0 fits in
    let ends : next ≡ start + sizes.hash * count = w.whole in
    let bytes : hashes_bytes hs ≡ part =
    hashes_at_bytes s start count all (omega (arith, w.there)) ∙ ap (λ (k : ℕ). slice start k s) (sym ends)
    in
    let there : slice 0 (0 + sizes.hash * length hs) after ≡ hashes_bytes hs =
    rw whole (take_at part (drop (0 + length part) before) (0 + sizes.hash * length hs) (omega arith)) ∙ sym bytes
    in
    let behind : drop (sizes.hash * length hs) after ≡ drop (0 + length part) before =
    rw whole (drop_at part (drop (0 + length part) before) (sizes.hash * length hs) (omega arith))
    in
    let same : 0 + length part ≡ sizes.hash * length hs = omega arith in
    record {
      answer = got.0 ∙ ap (λ (k : ℕ). Ok (p.version, k)) (sym many);
      heads = hashes_there_and_back after 0 hs (hashes_are_hashes s start count all) there;
      rest = behind ∙ ap (λ (k : ℕ). drop k before) same;
    }

-- Whenever this answer refuses, but for 7, the full read of the same bytes gives the same refusal, whatever room it is lent.
pub record Refuses (s : List ℕ) (r : Refusal) : Type 0 where
  pub message : message_at s ≡ refused r
  pub call : (haves chunks : List ℕ) → read_with s haves chunks ≡ refused r

pub peek_refuses : (s : List ℕ) (room : ℕ) (r : Refusal) → peeked_at s room ≡ Err r → ((n : ℕ) → r ≡ NoRoom n → ⊥) → Refuses s r
unfolding peeked_of room_for
peek_refuses s room r e other = go (opening_at s) refl
  where
    go : (x : Result (MessageVersion × Run × ℕ) Refusal) → opening_at s ≡ x → Refuses s r
    go (Err q) is =
        let same : ◌≡◌ {A = Result (MessageVersion × ℕ) Refusal} (Err q) (Err r) = rw is at e in
        let w : message_at s ≡ refused r = message_refused s q is ∙ ap refused cc in
        record { message = w; call = λ haves chunks. rw w }
    go (Ok (version, heads, next)) is =
        split (ltb room (sizes.hash * heads.count))
        (λ t.
        let same : ◌≡◌ {A = Result (MessageVersion × ℕ) Refusal} (Err (NoRoom (sizes.hash * heads.count))) (Err r) = rw (is, t) at e in
        absurd (other (sizes.hash * heads.count) cc))
        (λ t.
        let same : ◌≡◌ {A = Result (MessageVersion × ℕ) Refusal} (Ok (version, heads.count)) (Err r) = rw (is, t) at e in
        absurd (let z : ◌≡◌ {A = ℕ} 0 1 = cc in omega arith))

-- ---- no byte behind the heads

-- a first byte and heads, in a message within its size, open it
opens : (t : List ℕ) (version : MessageVersion) (heads : Run) (next : ℕ) → length t ≤ sizes.message → 0 < length t → get_or t 0 0 ≡ type_of version
    → hash_list_at t 1 (length t) ≡ Ok (heads, next)
    → opening_at t ≡ Ok (version, heads, next)
opens t V1 heads next small some type list = opening_first t small (omega arith) type ∙ heads_read t V1 heads next list
opens t V2 heads next small some type list =
    opening_second t small (omega arith) (λ e. let z : ◌≡◌ {A = ℕ} 0x43 0x42 = sym type ∙ e in omega arith) type ∙ heads_read t V2 heads next list

-- a message that starts as an opened one does, and is within its size, is opened alike
opened_alike : (s t : List ℕ) → Bytes s → (version : MessageVersion) (heads : Run) (next : ℕ) → opening_at s ≡ Ok (version, heads, next)
    → length t ≤ sizes.message
    → take next t ≡ take next s
    → opening_at t ≡ Ok (version, heads, next)
opened_alike s t all version heads next is small same =
    let o = opening_behind s version heads next is in
    let w = hash_list_inside s 1 (length s) heads next o.list in
    let some : 0 < next = omega (arith, w.after, w.whole) in
    let hs : List ℕ = hashes_at s heads.start heads.count in
    let long : length (take next t) ≡ next = ap length same ∙ length-take-le next s w.there in
    let room : next ≤ length t = omega (arith, length-take next t) in
    let bytes : slice 1 next s ≡ hash_list_bytes hs = written_hash_list s 1 (length s) heads next all o.list in
    let parted : slice 1 (length s) s ≡ hash_list_bytes hs ++ slice next (length s) s =
    slice_parted s 1 next (length s) some w.there ∙ ap (λ (l : List ℕ). l ++ slice next (length s) s) bytes
    in
    let alike : slice 1 (length t) t ≡ hash_list_bytes hs ++ slice next (length t) t =
    slice_parted t 1 next (length t) some room ∙ ap (λ (l : List ℕ). l ++ slice next (length t) t) (ap (drop 1) same ∙ bytes)
    in
    let are = hashes_are_hashes s heads.start heads.count all in
    let few : length hs ≤ sizes.hashes = omega (arith, length_hashes_at s heads.start heads.count, w.small) in
    let list : hash_list_at t 1 (length t) ≡ Ok (heads, next) =
    (hash_list_written t hs (slice next (length t) t) 1 (length t) are few alike).0
    ∙ sym (hash_list_written s hs (slice next (length s) s) 1 (length s) are few parted).0
    ∙ o.list
    in
    let first : get_or t 0 0 ∷ slice 1 next t ≡ get_or s 0 0 ∷ slice 1 next s =
    sym (slice_next t 0 next some room) ∙ same ∙ slice_next s 0 next some w.there
    in
    let type : get_or t 0 0 ≡ get_or s 0 0 = cc in
    opens t version heads next small (omega arith) (type ∙ o.type) list

-- Where s is opened with its heads up to the place `next`, any message within the total size that has the same first `next` bytes gets the same answer
-- and leaves the same in the buffer.
pub peek_prefix : (s t : List ℕ) → Bytes s → (version : MessageVersion) (heads : Run) (next : ℕ) → opening_at s ≡ Ok (version, heads, next)
    → length t ≤ sizes.message
    → take next t ≡ take next s
    → (before a₁ a₂ : List ℕ) (r₁ r₂ : Result (MessageVersion × ℕ) Refusal)
    → PeekedInto s before a₁ r₁
    → PeekedInto t before a₂ r₂
    → (r₁ ≡ r₂) × (a₁ ≡ a₂)
unfolding peeked_of heads_into
peek_prefix s t all version heads next is small same before a₁ a₂ r₁ r₂ p q =
    let like = opened_alike s t all version heads next is small same in
    let part : slice heads.start next t ≡ slice heads.start next s = ap (drop heads.start) same in
    let answer : r₂ ≡ peeked_of (Ok (version, heads, next)) (length before) = rw like at q.answer in
    let content : a₂ ≡ heads_into (Ok (version, heads, next)) s before = rw (like, part) at q.content in
    ((rw is at p.answer) ∙ sym answer, (rw is at p.content) ∙ sym content)
