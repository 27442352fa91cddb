-- Laws of messages that were read: one result a call, the order of the first refusals, how many words there are and where the parts stand, haves
-- that pass every test of passed haves, and small flags.
use Prim.Native.Nat.{ℕ, ◌+◌, ◌-◌, ◌*◌, ◌≤◌, ◌<◌}
use mathlib.Core.Bool.{true}
use mathlib.Core.List.{List, [], ◌∷◌}
use mathlib.Core.Path.{◌≡◌, refl, sym, ◌∙◌, ap}
use native.Mathlib.Omega.{arith}
use borrow.Author.Tests.{ltb-true, ltb-false, eqb-true, eqb-false, leb-true, leb-false}
use lib.Bits.{bit_or, or_lt}
use lib.Dec.{ltb, leb, eqb}
use lib.ListN.{length, get_or}
use lib.Seq.{slice}
use Rattle.bloom.specs.Have.{have_words, passed_good, passed_few}
use Rattle.message.specs.Flags.{add_flags, flags_in, flags_of}
use Rattle.message.specs.Message.{type_of}
use Rattle.message.specs.declared.flags.MessageFlags.{MessageFlags}
use Rattle.message.specs.declared.version.MessageVersion.{MessageVersion}
use Rattle.message.specs.declared.version.MessageVersion.TheVariants.{V1, V2}
use Rattle.rules.specs.Hash.{Bytes}
use Rattle.rules.specs.Sizes.{sizes}
use Rattle.rules.specs.declared.refusal.Refusal.{Refusal}
use Rattle.rules.specs.declared.refusal.Refusal.TheVariants.{Cut, WrongType, PastSize}
use Rattle.rules.proofs.Cases.{split, read_same}
use Rattle.rules.proofs.Hash.{bytes_head, bytes_tail, bytes_slice}
use Rattle.wire.specs.Item.{prefixed_at, hash_list_at}
use Rattle.wire.specs.declared.parse.Run.{Run}
use Rattle.wire.proofs.Item.{prefixed_inside, hash_list_inside}
use Rattle.message_items.specs.Items.{chunk_words}
use Rattle.message_read.specs.MessageRead.{read, refused, heads_at, opening_at, section_at, message_at}
use Rattle.message_read.specs.MessageIgnored.{DecodedInto}
use Rattle.message_read.specs.declared.parse.Places.{Places}
use Rattle.message_items.proofs.ItemLaws.{haves_behind, chunks_behind}
use Rattle.message_items.proofs.Words.{haves_pass, chunks_inside}
use Rattle.message_read.proofs.ReadLaws.{heads_refused, heads_read, opening_long, opening_empty, opening_first, opening_second, opening_other, section_none, section_refused, section_read, message_refused, message_behind}
use Rattle.std.specs.Prelude.{Result, Ok, Err, Option, Some, None}

-- ---- one result

pub decoded_once : (s haves₀ haves₁ haves₂ chunks₀ chunks₁ chunks₂ ignored₀ ignored₁ ignored₂ : List ℕ) (r₁ r₂ : Result (Places × ℕ × ℕ) Refusal)
    → DecodedInto s haves₀ haves₁ chunks₀ chunks₁ ignored₀ ignored₁ r₁
    → DecodedInto s haves₀ haves₂ chunks₀ chunks₂ ignored₀ ignored₂ r₂
    → (r₁ ≡ r₂) × (haves₁ ≡ haves₂) × (chunks₁ ≡ chunks₂) × (ignored₁ ≡ ignored₂)
decoded_once s haves₀ haves₁ haves₂ chunks₀ chunks₁ chunks₂ ignored₀ ignored₁ ignored₂ r₁ r₂ a b =
    (a.answer ∙ sym b.answer, a.haves ∙ sym b.haves, a.chunks ∙ sym b.chunks, a.ignored ∙ sym b.ignored)

-- ---- the first refusals, in their order

module _ (s : List ℕ) where
  pub message_long : sizes.message < length s → message_at s ≡ refused (PastSize 0)
  message_long h = message_refused s (PastSize 0) (opening_long s h)

  pub message_empty : length s ≡ 0 → message_at s ≡ refused (Cut 0)
  message_empty e = message_refused s (Cut 0) (opening_empty s (omega arith) e)

  pub message_other : 0 < length s → length s ≤ sizes.message → (get_or s 0 0 ≡ type_of V1 → ⊥) → (get_or s 0 0 ≡ type_of V2 → ⊥)
      → message_at s ≡ refused (WrongType (get_or s 0 0))
  message_other some small f g = message_refused s (WrongType (get_or s 0 0)) (opening_other s small (omega arith) f g)

-- ---- what stands behind the first stage and the last

not_heads : {A : Type 0} (r : Refusal) (v : MessageVersion) (heads : Run) (next : ℕ) → ◌≡◌ {A = Result (MessageVersion × Run × ℕ) Refusal} (Err r) (Ok (v, heads, next)) → A
not_heads r v heads next e = absurd (let z : ◌≡◌ {A = ℕ} 0 1 = cc in omega arith)

module _ (s : List ℕ) (version : MessageVersion) (heads : Run) (next : ℕ) where
  pub record OpeningBehind : Type 0 where
    pub small : length s ≤ sizes.message
    pub some : 0 < length s
    pub type : get_or s 0 0 ≡ type_of version
    pub list : hash_list_at s 1 (length s) ≡ Ok (heads, next)

  heads_behind : (v : MessageVersion) → heads_at s v ≡ Ok (version, heads, next)
      → (v ≡ version) × (hash_list_at s 1 (length s) ≡ Ok (heads, next))
  heads_behind v e = go (hash_list_at s 1 (length s)) refl
    where
      go : (x : Result (Run × ℕ) Refusal) → hash_list_at s 1 (length s) ≡ x → (v ≡ version) × (hash_list_at s 1 (length s) ≡ Ok (heads, next))
      go (Ok (a, b)) q =
          let z : ◌≡◌ {A = Result (MessageVersion × Run × ℕ) Refusal} (Ok (v, a, b)) (Ok (version, heads, next)) = sym (heads_read s v a b q) ∙ e in
          let same : ◌≡◌ {A = MessageVersion × Run × ℕ} (v, a, b) (version, heads, next) = cc in
          (ap (λ (p : MessageVersion × Run × ℕ). p.0) same, q ∙ ap (λ (p : MessageVersion × Run × ℕ). Ok (p.1, p.2)) same)
      go (Err r) q = not_heads r version heads next (sym (heads_refused s v r q) ∙ e)

  pub opening_behind : opening_at s ≡ Ok (version, heads, next) → OpeningBehind
  opening_behind e =
      split (ltb sizes.message (length s))
      (λ t. not_heads _ _ _ _ (sym (opening_long s (ltb-true _ _ t)) ∙ e))
      (λ t.
      let small = ltb-false _ _ t in
      split (eqb (length s) 0)
      (λ u. not_heads _ _ _ _ (sym (opening_empty s small (eqb-true _ _ u)) ∙ e))
      (λ u.
      let some = eqb-false _ _ u in
      split (eqb (get_or s 0 0) (type_of V1))
      (λ v.
      let is = eqb-true _ _ v in
      let h = heads_behind V1 (sym (opening_first s small some is) ∙ e) in
      record { small = small; some = omega arith; type = is ∙ ap type_of h.0; list = h.1 })
      (λ v.
      let other = eqb-false _ _ v in
      split (eqb (get_or s 0 0) (type_of V2))
      (λ w.
      let is = eqb-true _ _ w in
      let h = heads_behind V2 (sym (opening_second s small some other is) ∙ e) in
      record { small = small; some = omega arith; type = is ∙ ap type_of h.0; list = h.1 })
      (λ w. not_heads _ _ _ _ (sym (opening_other s small some other (eqb-false _ _ w)) ∙ e)))))

not_sectioned : {A : Type 0} (r : Refusal) (flags : Option MessageFlags) (next : ℕ) → ◌≡◌ {A = Result (Option MessageFlags × ℕ) Refusal} (Err r) (Ok (flags, next)) → A
not_sectioned r flags next e = absurd (let z : ◌≡◌ {A = ℕ} 0 1 = cc in omega arith)

-- A section that was read: there is none and no bytes remain, or it is a prefixed string.
pub section_apart : {A : Type 0} (s : List ℕ) (at : ℕ) (flags : Option MessageFlags) (next : ℕ) → section_at s at ≡ Ok (flags, next)
    → (length s ≤ at → (None ≡ flags) × (at ≡ next) → A)
    → ((start end : ℕ) → at < length s → prefixed_at s at (length s) ≡ Ok (start, end)
    → (Some (flags_of (flags_in (slice start end s))) ≡ flags) × (end ≡ next)
    → A)
    → A
section_apart {A} s at flags next e none some =
    split (leb (length s) at)
    (λ t. let h = leb-true _ _ t in none h (read_same (sym (section_none s at h) ∙ e)))
    (λ t. go (leb-false _ _ t) (prefixed_at s at (length s)) refl)
  where
    go : at < length s → (x : Result (ℕ × ℕ) Refusal) → prefixed_at s at (length s) ≡ x → A
    go h (Ok (start, end)) q = some start end h q (read_same (sym (section_read s at h start end _ q refl) ∙ e))
    go h (Err r) q = not_sectioned r flags next (sym (section_refused s at h r q) ∙ e)

-- ---- words and places

pub record MessageWords (s : List ℕ) (p : Places) (haves chunks : List ℕ) : Type 0 where
  pub small : length s ≤ sizes.message
  pub few_heads : p.heads.count ≤ sizes.hashes
  pub few_need : p.need.count ≤ sizes.hashes
  pub few_haves : p.haves.count ≤ sizes.haves
  pub few_chunks : p.chunks.count ≤ sizes.chunks
  pub have_long : length haves ≡ have_words * p.haves.count
  pub chunk_long : length chunks ≡ chunk_words * p.chunks.count
  pub heads_there : p.heads.start + sizes.hash * p.heads.count ≤ length s
  pub need_there : p.need.start + sizes.hash * p.need.count ≤ length s
  pub haves_there : p.haves.start ≤ length s
  pub chunks_there : p.chunks.start ≤ length s
  pub up_to : p.next ≤ length s

pub message_words : (s : List ℕ) (p : Places) (haves chunks : List ℕ) → message_at s ≡ read p haves chunks → MessageWords s p haves chunks
message_words s p haves chunks e =
    let b = message_behind s p haves chunks e in
    let o = opening_behind s p.version p.heads b.at_need b.opening in
    let l = hash_list_inside s 1 (length s) p.heads b.at_need o.list in
    let n = hash_list_inside s b.at_need (length s) p.need b.at_haves b.need in
    let h = haves_behind s b.at_haves p.haves haves b.at_chunks b.have_list in
    let c = chunks_behind s b.at_chunks p.chunks chunks b.at_section b.chunk_list in
    record {
      small = o.small;
      few_heads = l.small;
      few_need = n.small;
      few_haves = h.few;
      few_chunks = c.few;
      have_long = h.long;
      chunk_long = c.long;
      heads_there = omega (arith, l.whole, l.there);
      need_there = omega (arith, n.whole, n.there);
      haves_there = h.there;
      chunks_there = c.there;
      up_to =
          section_apart s b.at_section p.flags p.next b.section
          (λ past q. omega (arith, q.1, c.up_to))
          (λ start end here part q. omega (arith, q.1, prefixed_inside s b.at_section (length s) start end part));
    }

-- ---- haves and chunks

pub haves_good_lem : (s : List ℕ) → Bytes s → (p : Places) (haves chunks : List ℕ) → message_at s ≡ read p haves chunks
    → (passed_good s haves ≡ true) × (passed_few haves ≡ true)
haves_good_lem s all p haves chunks e =
    let b = message_behind s p haves chunks e in
    haves_pass s all b.at_haves p.haves haves b.at_chunks b.have_list

pub chunks_good : (s : List ℕ) (p : Places) (haves chunks : List ℕ) → message_at s ≡ read p haves chunks
    → (i : ℕ) → i < p.chunks.count → get_or chunks (i * chunk_words) 0 + get_or chunks (i * chunk_words + 1) 0 ≤ length s
chunks_good s p haves chunks e i h =
    let b = message_behind s p haves chunks e in
    let c = chunks_behind s b.at_chunks p.chunks chunks b.at_section b.chunk_list in
    chunks_inside s p.chunks.count p.chunks.start chunks b.at_section c.each i h

-- ---- flags

added_small : (bs : List ℕ) (f : ℕ) → Bytes bs → f < 0x80 → add_flags f bs < 0x80
unfolding add_flags
added_small [] f all h = h
added_small (b ∷ bs) f all h =
    split (ltb b 0x80)
    (λ t. rw t (added_small bs f (bytes_tail b bs all) h))
    (λ t.
    let byte = bytes_head b bs all in
    let more : bit_or f (b - 0x80) < 0x80 = or_lt 7 f (b - 0x80) h (omega (arith, ltb-false b 0x80 t)) in
    rw t (added_small bs (bit_or f (b - 0x80)) (bytes_tail b bs all) more))

pub flags_small : (s : List ℕ) → Bytes s → (p : Places) (haves chunks : List ℕ) (f : MessageFlags) → message_at s ≡ read p haves chunks
    → p.flags ≡ Some f
    → f.0 < 0x80
unfolding flags_in
flags_small s all p haves chunks f e is =
    let b = message_behind s p haves chunks e in
    section_apart s b.at_section p.flags p.next b.section
    (λ past q. absurd (let a : ◌≡◌ {A = Option MessageFlags} None (Some f) = q.0 ∙ is in let z : ◌≡◌ {A = ℕ} 0 1 = cc in omega arith))
    (λ start end here part q.
    let a : ◌≡◌ {A = Option MessageFlags} (Some (flags_of (flags_in (slice start end s)))) (Some f) = q.0 ∙ is in
    let w : add_flags 0 (slice start end s) ≡ f.0 = cc in
    rw (← w) (added_small (slice start end s) 0 (bytes_slice s start end all) (omega arith)))
