-- A message read: one law for each case of each stage; what stands behind a message that was read, stage by stage; and what the call leaves.
use Prim.Native.Nat.{ℕ, ◌-◌, ◌*◌, ◌≤◌, ◌<◌}
use mathlib.Core.List.{List}
use mathlib.Core.Path.{◌≡◌, refl, sym, ◌∙◌, ap, ap₂, subst}
use native.Mathlib.Omega.{arith}
use borrow.Author.Tests.{lt-ltb, le-ltb, lt-leb, le-leb, eq-eqb, ne_eqb}
use lib.ListN.{length, get_or}
use lib.Seq.{slice, sets}
use Rattle.bloom.specs.Have.{have_words}
use Rattle.message.specs.Flags.{flags_of, flags_in}
use Rattle.message.specs.Message.{type_of}
use Rattle.message.specs.declared.flags.MessageFlags.{MessageFlags}
use Rattle.message.specs.declared.version.MessageVersion.{MessageVersion}
use Rattle.message.specs.declared.version.MessageVersion.TheVariants.{V1, V2}
use Rattle.rules.specs.Sizes.{sizes}
use Rattle.rules.specs.declared.refusal.Refusal.{Refusal}
use Rattle.rules.specs.declared.refusal.Refusal.TheVariants.{Cut, WrongType, PastSize, NoRoom}
use Rattle.wire.specs.Item.{after_part, after_listed, prefixed_at, hash_list_at}
use Rattle.wire.specs.declared.parse.Run.{Run}
use Rattle.message_items.specs.ItemsIgnored.{CountedPut}
use Rattle.message_items.specs.Items.{have_item, chunk_item, many_at, Item, item, after_item, ItemList, list, no_list, after_list, haves_at, chunks_at, chunk_words, listed_of, words_of, AllRead}
use Rattle.message_read.specs.MessageRead.{Reading, read, refused, heads_at, opening_at, section_at, after_opening, after_section, lists_at, need_at, message_at, decoded_of, room_for, haves_into, chunks_into}
use Rattle.message_read.specs.MessageIgnored.{ignored_of, behind_of, counted_of, ignored_into, DecodedInto}
use Rattle.message_read.specs.declared.parse.Places.{Places}
use Rattle.message_items.proofs.ItemLaws.{listed_refused, listed_items, ItemsBehind, haves_behind, chunks_behind}
use Rattle.std.specs.Prelude.{Result, Ok, Err, Option, Some, None}

-- ---- the first stage

module _ (s : List ℕ) (version : MessageVersion) where
  pub heads_refused : (r : Refusal) → hash_list_at s 1 (length s) ≡ Err r → heads_at s version ≡ Err r
  unfolding heads_at after_listed
  heads_refused r e = rw e

  pub heads_read : (heads : Run) (next : ℕ) → hash_list_at s 1 (length s) ≡ Ok (heads, next) → heads_at s version ≡ Ok (version, heads, next)
  unfolding heads_at after_listed
  heads_read heads next e = rw e

module _ (s : List ℕ) where
  pub opening_long : sizes.message < length s → opening_at s ≡ Err (PastSize 0)
  unfolding opening_at
  opening_long h = rw (lt-ltb _ _ h)

  module _ (small : length s ≤ sizes.message) where
    pub opening_empty : length s ≡ 0 → opening_at s ≡ Err (Cut 0)
    unfolding opening_at
    opening_empty e = rw (le-ltb _ _ small, eq-eqb _ _ e)

    module _ (some : length s ≡ 0 → ⊥) where
      pub opening_first : get_or s 0 0 ≡ type_of V1 → opening_at s ≡ heads_at s V1
      unfolding opening_at
      opening_first e = rw (le-ltb _ _ small, ne_eqb _ _ some, eq-eqb _ _ e)

      module _ (other : get_or s 0 0 ≡ type_of V1 → ⊥) where
        pub opening_second : get_or s 0 0 ≡ type_of V2 → opening_at s ≡ heads_at s V2
        unfolding opening_at
        opening_second e = rw (le-ltb _ _ small, ne_eqb _ _ some, ne_eqb _ _ other, eq-eqb _ _ e)

        pub opening_other : (get_or s 0 0 ≡ type_of V2 → ⊥) → opening_at s ≡ Err (WrongType (get_or s 0 0))
        unfolding opening_at
        opening_other f = rw (le-ltb _ _ small, ne_eqb _ _ some, ne_eqb _ _ other, ne_eqb _ _ f)

-- ---- the flags section

module _ (s : List ℕ) (at : ℕ) where
  pub section_none : length s ≤ at → section_at s at ≡ Ok (None, at)
  unfolding section_at
  section_none h = rw (le-leb _ _ h)

  module _ (more : at < length s) where
    pub section_refused : (r : Refusal) → prefixed_at s at (length s) ≡ Err r → section_at s at ≡ Err r
    unfolding section_at after_part
    section_refused r e = rw (lt-leb _ _ more, e)

    pub section_read : (start end : ℕ) (m : MessageFlags) → prefixed_at s at (length s) ≡ Ok (start, end)
        → m ≡ flags_of (flags_in (slice start end s))
        → section_at s at ≡ Ok (Some m, end)
    unfolding section_at after_part
    section_read start end m e f = rw (lt-leb _ _ more, e, f)

-- ---- the stages after the first

module _ (s : List ℕ) (version : MessageVersion) (heads need : Run) (at : ℕ) where
  pub lists_no_haves : (r : Refusal) → listed_of (haves_at s at) ≡ Err r → decoded_of (lists_at s version heads need at) ≡ Err r
  unfolding lists_at after_list decoded_of
  lists_no_haves r e = rw (listed_refused (haves_at s at) r e)

  module _ (haves : Run) (i : ℕ) (have-list : listed_of (haves_at s at) ≡ Ok (haves, i)) where
    pub lists_no_chunks : (r : Refusal) → listed_of (chunks_at s i) ≡ Err r → decoded_of (lists_at s version heads need at) ≡ Err r
    unfolding lists_at after_list decoded_of
    lists_no_chunks r e =
        let h = listed_items (haves_at s at) haves i have-list in
        rw (h.is, listed_refused (chunks_at s i) r e)

    module _ (chunks : Run) (j : ℕ) (chunk-list : listed_of (chunks_at s i) ≡ Ok (chunks, j)) where
      pub lists_no_section : (r : Refusal) → section_at s j ≡ Err r → decoded_of (lists_at s version heads need at) ≡ Err r
      unfolding lists_at after_list after_section decoded_of
      lists_no_section r e =
          let h = listed_items (haves_at s at) haves i have-list in
          let c = listed_items (chunks_at s i) chunks j chunk-list in
          rw (h.is, c.is, e)

      pub lists_read : (flags : Option MessageFlags) (next : ℕ) → section_at s j ≡ Ok (flags, next)
          → decoded_of (lists_at s version heads need at)
          ≡ Ok
          (record {
            version = version;
            heads = heads;
            need = need;
            haves = haves;
            chunks = chunks;
            flags = flags;
            next = next;
          })
      unfolding lists_at after_list after_section decoded_of
      lists_read flags next e =
          let h = listed_items (haves_at s at) haves i have-list in
          let c = listed_items (chunks_at s i) chunks j chunk-list in
          rw (h.is, c.is, e)

module _ (s : List ℕ) (version : MessageVersion) (heads : Run) (at : ℕ) where
  pub need_refused : (r : Refusal) → hash_list_at s at (length s) ≡ Err r → need_at s version heads at ≡ refused r
  unfolding need_at after_listed
  need_refused r e = rw e

  pub need_read : (need : Run) (next : ℕ) → hash_list_at s at (length s) ≡ Ok (need, next)
      → need_at s version heads at ≡ lists_at s version heads need next
  unfolding need_at after_listed
  need_read need next e = rw e

  -- a refused need refuses the reading in places alone too
  pub need_gone : (r : Refusal) → hash_list_at s at (length s) ≡ Err r → decoded_of (need_at s version heads at) ≡ Err r
  unfolding decoded_of
  need_gone r e = rw (need_refused r e)

  pub need_lists : (need : Run) (next : ℕ) → hash_list_at s at (length s) ≡ Ok (need, next)
      → decoded_of (need_at s version heads at) ≡ decoded_of (lists_at s version heads need next)
  need_lists need next e = ap decoded_of (need_read need next e)

module _ (s : List ℕ) where
  pub message_refused : (r : Refusal) → opening_at s ≡ Err r → message_at s ≡ refused r
  unfolding message_at after_opening
  message_refused r e = rw e

  pub message_opened : (version : MessageVersion) (heads : Run) (next : ℕ) → opening_at s ≡ Ok (version, heads, next)
      → message_at s ≡ need_at s version heads next
  unfolding message_at after_opening
  message_opened version heads next e = rw e

  pub message_gone : (r : Refusal) → opening_at s ≡ Err r → decoded_of (message_at s) ≡ Err r
  unfolding decoded_of
  message_gone r e = rw (message_refused r e)

  pub message_need : (version : MessageVersion) (heads : Run) (next : ℕ) → opening_at s ≡ Ok (version, heads, next)
      → decoded_of (message_at s) ≡ decoded_of (need_at s version heads next)
  message_need version heads next e = ap decoded_of (message_opened version heads next e)

-- ---- what stands behind a message that was read

pub not_read : {A : Type 0} (r : Refusal) (p : Places) (haves chunks : List ℕ) → refused r ≡ read p haves chunks → A
not_read r p haves chunks e = absurd (let z : ◌≡◌ {A = ℕ} 0 1 = cc in omega arith)

-- The stages, and the places between them.
pub record MessageBehind (s : List ℕ) (p : Places) (haves chunks : List ℕ) : Type 0 where
  pub at_need : ℕ
  pub at_haves : ℕ
  pub at_chunks : ℕ
  pub at_section : ℕ
  pub opening : opening_at s ≡ Ok (p.version, p.heads, at_need)
  pub need : hash_list_at s at_need (length s) ≡ Ok (p.need, at_haves)
  pub have_list : haves_at s at_haves ≡ list p.haves haves at_chunks
  pub chunk_list : chunks_at s at_chunks ≡ list p.chunks chunks at_section
  pub section : section_at s at_section ≡ Ok (p.flags, p.next)

module _ (s : List ℕ) (p : Places) (haves chunks : List ℕ) where
  same_behind : (q : Places) (hw cw : List ℕ) → read q hw cw ≡ read p haves chunks → MessageBehind s q hw cw → MessageBehind s p haves chunks
  same_behind q hw cw e m =
      let a : q ≡ p = cc in
      let b : hw ≡ haves = cc in
      let c : cw ≡ chunks = cc in
      subst (λ (x : Places). MessageBehind s x haves chunks) a
      (subst (λ (w : List ℕ). MessageBehind s q haves w) c (subst (λ (w : List ℕ). MessageBehind s q w cw) b m))

  pub message_behind : message_at s ≡ read p haves chunks → MessageBehind s p haves chunks
  unfolding message_at need_at lists_at after_opening after_listed after_list after_section
  message_behind e = opened (opening_at s) refl
    where
      sectioned : (version : MessageVersion) (heads need hs cs : Run) (i j k l : ℕ) (hw cw : List ℕ)
          → opening_at s ≡ Ok (version, heads, i)
          → hash_list_at s i (length s) ≡ Ok (need, j)
          → haves_at s j ≡ list hs hw k
          → chunks_at s k ≡ list cs cw l
          → (x : Result (Option MessageFlags × ℕ) Refusal) → section_at s l ≡ x → MessageBehind s p haves chunks
      sectioned version heads need hs cs i j k l hw cw o n h c (Ok (flags, next)) f =
          let q : Places = record { version = version; heads = heads; need = need; haves = hs; chunks = cs; flags = flags; next = next } in
          let is : message_at s ≡ read q hw cw = rw (o, n, h, c, f) in
          same_behind q hw cw (sym is ∙ e)
          (record {
            at_need = i;
            at_haves = j;
            at_chunks = k;
            at_section = l;
            opening = o;
            need = n;
            have_list = h;
            chunk_list = c;
            section = f;
          })
      sectioned version heads need hs cs i j k l hw cw o n h c (Err r) f =
          let is : message_at s ≡ refused r = rw (o, n, h, c, f) in
          not_read r p haves chunks (sym is ∙ e)

      chunked : (version : MessageVersion) (heads need hs : Run) (i j k : ℕ) (hw : List ℕ)
          → opening_at s ≡ Ok (version, heads, i)
          → hash_list_at s i (length s) ≡ Ok (need, j)
          → haves_at s j ≡ list hs hw k
          → (x : ItemList) → chunks_at s k ≡ x → MessageBehind s p haves chunks
      chunked version heads need hs i j k hw o n h (list cs cw l) c =
          sectioned version heads need hs cs i j k l hw cw o n h c (section_at s l) refl
      chunked version heads need hs i j k hw o n h (no_list r) c =
          let is : message_at s ≡ refused r = rw (o, n, h, c) in
          not_read r p haves chunks (sym is ∙ e)

      haved : (version : MessageVersion) (heads need : Run) (i j : ℕ)
          → opening_at s ≡ Ok (version, heads, i)
          → hash_list_at s i (length s) ≡ Ok (need, j)
          → (x : ItemList) → haves_at s j ≡ x → MessageBehind s p haves chunks
      haved version heads need i j o n (list hs hw k) h =
          chunked version heads need hs i j k hw o n h (chunks_at s k) refl
      haved version heads need i j o n (no_list r) h =
          let is : message_at s ≡ refused r = rw (o, n, h) in
          not_read r p haves chunks (sym is ∙ e)

      needed : (version : MessageVersion) (heads : Run) (i : ℕ) → opening_at s ≡ Ok (version, heads, i)
          → (x : Result (Run × ℕ) Refusal) → hash_list_at s i (length s) ≡ x → MessageBehind s p haves chunks
      needed version heads i o (Ok (need, j)) n = haved version heads need i j o n (haves_at s j) refl
      needed version heads i o (Err r) n =
          let is : message_at s ≡ refused r = rw (o, n) in
          not_read r p haves chunks (sym is ∙ e)

      opened : (x : Result (MessageVersion × Run × ℕ) Refusal) → opening_at s ≡ x → MessageBehind s p haves chunks
      opened (Ok (version, heads, i)) o = needed version heads i o (hash_list_at s i (length s)) refl
      opened (Err r) o =
          let is : message_at s ≡ refused r = rw o in
          not_read r p haves chunks (sym is ∙ e)

-- ---- what the call leaves

pub placed : (x : Reading) (p : Places) → decoded_of x ≡ Ok p → record { haves : List ℕ; chunks : List ℕ; is : x ≡ read p haves chunks }
unfolding decoded_of
placed (read q haves chunks) p e = record { haves = haves; chunks = chunks; is = cc }
placed (refused r) p e = absurd (let z : ◌≡◌ {A = ℕ} 0 1 = cc in omega arith)

pub not_placed : (x : Reading) (r : Refusal) → decoded_of x ≡ Err r → x ≡ refused r
unfolding decoded_of
not_placed (read q haves chunks) r e = absurd (let z : ◌≡◌ {A = ℕ} 0 1 = cc in omega arith)
not_placed (refused q) r e = cc

-- 7 with the words wanted
abbrev short_of : ℕ → Result (Places × ℕ × ℕ) Refusal
short_of n = Err (NoRoom n)

pub decode_refused : (s haves₀ chunks₀ ignored₀ : List ℕ) (r : Refusal) → decoded_of (message_at s) ≡ Err r
    → DecodedInto s haves₀ haves₀ chunks₀ chunks₀ ignored₀ ignored₀ (Err r)
unfolding room_for counted_of haves_into chunks_into ignored_into
decode_refused s haves₀ chunks₀ ignored₀ r e =
    let q = not_placed (message_at s) r e in
    record { answer = rw q; haves = rw q; chunks = rw q; ignored = rw q }

module _ (s : List ℕ) (p : Places) (is : decoded_of (message_at s) ≡ Ok p) where
  words : record { haves : List ℕ; chunks : List ℕ; is : message_at s ≡ read p haves chunks }
  words = placed (message_at s) p is

  stages : MessageBehind s p words.haves words.chunks
  stages = message_behind s p words.haves words.chunks words.is

  have_words_lem : ItemsBehind s stages.at_haves p.haves words.haves stages.at_chunks sizes.haves have_words (have_item s)
  have_words_lem = haves_behind s stages.at_haves p.haves words.haves stages.at_chunks stages.have_list

  chunk_words_lem : ItemsBehind s stages.at_chunks p.chunks words.chunks stages.at_section sizes.chunks chunk_words (chunk_item s)
  chunk_words_lem = chunks_behind s stages.at_chunks p.chunks words.chunks stages.at_section stages.chunk_list

  pub few_haves_lem : p.haves.count ≤ sizes.haves
  few_haves_lem = have_words_lem.few

  pub few_chunks_lem : p.chunks.count ≤ sizes.chunks
  few_chunks_lem = chunk_words_lem.few

  pub haves_read : (room : ℕ) → have_words * p.haves.count ≤ room → AllRead (many_at (have_item s) p.haves.count p.haves.start) room
  haves_read room h =
      record { words = words.haves; next = stages.at_chunks; is = have_words_lem.each; fits = omega (arith, have_words_lem.long) }

  pub chunks_read : (room : ℕ) → chunk_words * p.chunks.count ≤ room → AllRead (many_at (chunk_item s) p.chunks.count p.chunks.start) room
  chunks_read room h =
      record { words = words.chunks; next = stages.at_section; is = chunk_words_lem.each; fits = omega (arith, chunk_words_lem.long) }

  module _ (haves₀ chunks₀ ignored₀ : List ℕ) where
    pub haves_short : length haves₀ < have_words * p.haves.count
        → DecodedInto s haves₀ haves₀ chunks₀ chunks₀ ignored₀ ignored₀ (Err (NoRoom (have_words * p.haves.count)))
    unfolding room_for counted_of haves_into chunks_into ignored_into
    haves_short h =
        let l = have_words_lem.long in
        let short : length haves₀ < length words.haves = omega arith in
        let t = lt-ltb _ _ short in
        record {
          answer = rw (words.is, t) (ap short_of (sym l));
          haves = rw (words.is, t);
          chunks = rw (words.is, t);
          ignored = rw (words.is, t);
        }

    module _ (room : have_words * p.haves.count ≤ length haves₀) where
      pub chunks_short : length chunks₀ < chunk_words * p.chunks.count
          → DecodedInto s haves₀ haves₀ chunks₀ chunks₀ ignored₀ ignored₀ (Err (NoRoom (chunk_words * p.chunks.count)))
      unfolding room_for counted_of haves_into chunks_into ignored_into
      chunks_short h =
          let l = chunk_words_lem.long in
          let fits : length words.haves ≤ length haves₀ = omega (arith, have_words_lem.long) in
          let short : length chunks₀ < length words.chunks = omega arith in
          let f = le-ltb _ _ fits in
          let t = lt-ltb _ _ short in
          record {
            answer = rw (words.is, f, t) (ap short_of (sym l));
            haves = rw (words.is, f, t);
            chunks = rw (words.is, f, t);
            ignored = rw (words.is, f, t);
          }

      module _ (more : chunk_words * p.chunks.count ≤ length chunks₀) where
        pub decoded : (haves₁ chunks₁ ignored₁ : List ℕ) (sum behind : ℕ)
            → CountedPut s p.haves.start p.haves.count haves₀ haves₁ ignored₀ ignored₁ sum
            → chunks₁ ≡ sets chunks₀ 0 (words_of (many_at (chunk_item s) p.chunks.count p.chunks.start))
            → behind ≡ behind_of s p.flags p.next
            → DecodedInto s haves₀ haves₁ chunks₀ chunks₁ ignored₀ ignored₁ (Ok (p, sum, behind))
        unfolding room_for counted_of haves_into chunks_into ignored_into ignored_of words_of after_item
        decoded haves₁ chunks₁ ignored₁ sum behind a b c =
            let fits : length words.haves ≤ length haves₀ = omega (arith, have_words_lem.long) in
            let room : length words.chunks ≤ length chunks₀ = omega (arith, chunk_words_lem.long) in
            let f = le-ltb _ _ fits in
            let g = le-ltb _ _ room in
            let x : haves₁ ≡ sets haves₀ 0 words.haves = rw have_words_lem.each at a.words in
            let y : chunks₁ ≡ sets chunks₀ 0 words.chunks = rw chunk_words_lem.each at b in
            record {
              answer = rw (words.is, f, g) (ap₂ (λ (k l : ℕ). Ok (p, k, l)) a.sum c);
              haves = rw (words.is, f, g) x;
              chunks = rw (words.is, f, g) y;
              ignored = rw (words.is, f, g) a.numbers;
            }

-- The stages make the message.
pub behind_read : (s : List ℕ) (p : Places) (haves chunks : List ℕ) → MessageBehind s p haves chunks → message_at s ≡ read p haves chunks
unfolding message_at need_at lists_at after_opening after_listed after_list after_section
behind_read s p haves chunks b = rw (b.opening, b.need, b.have_list, b.chunk_list, b.section)
