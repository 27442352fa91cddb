-- Haves and chunks, one and many: one law for each case of a have or a chunk, and how many items go from one to the next. The laws of many hold
-- whatever an item is, so haves and chunks share them.
use Prim.Native.Nat.{ℕ, zero, suc, ◌+◌, ◌-◌, ◌*◌, ◌≤◌, ◌<◌}
use mathlib.Core.List.{List, [], ◌∷◌, ◌++◌}
use mathlib.Core.Path.{◌≡◌, refl, sym, ◌∙◌, ap}
use native.Mathlib.Nat.{mul-suc}
use native.Mathlib.Numerals.{add-one}
use native.Mathlib.Omega.{arith}
use lib.ListN.{length, length-append}
use lib.Seq.{sets, length-sets}
use Rattle.bloom.specs.FilterRead.{filter_at, after_filter}
use Rattle.bloom.specs.Have.{have_words}
use Rattle.bloom.specs.declared.have.FilterNumbers.{FilterNumbers}
use Rattle.rules.specs.Sizes.{sizes}
use Rattle.rules.specs.declared.refusal.Refusal.{Refusal}
use Rattle.rules.proofs.Cases.{read_same}
use Rattle.rules.proofs.Outputs.{sets_append}
use Rattle.wire.specs.Item.{run, after_number, after_part, after_listed, count_at, prefixed_at, hash_list_at}
use Rattle.wire.proofs.Item.{count_inside, prefixed_inside}
use Rattle.wire.specs.declared.parse.Run.{Run}
use Rattle.message_items.specs.Items.{have_at, have_word_list, Item, item, stopped, after_item, have_words_of, have_item, chunk_words, chunk_item, many_at, ItemList, list, no_list, after_list, list_from, list_at, haves_at, chunks_at, listed_of, words_of, AllRead}
use Rattle.std.specs.Prelude.{Result, Ok, Err}

-- ---- one have

module _ (s : List ℕ) (at : ℕ) where
  pub have_no_list : (r : Refusal) → hash_list_at s at (length s) ≡ Err r → have_at s at ≡ Err r
  unfolding have_at after_listed
  have_no_list r e = rw e

  module _ (sync : Run) (i : ℕ) (syncs : hash_list_at s at (length s) ≡ Ok (sync, i)) where
    pub have_no_part : (r : Refusal) → prefixed_at s i (length s) ≡ Err r → have_at s at ≡ Err r
    unfolding have_at after_listed after_part
    have_no_part r e = rw (syncs, e)

    module _ (from end : ℕ) (part : prefixed_at s i (length s) ≡ Ok (from, end)) where
      pub have_no_filter : (r : Refusal) → filter_at s from end ≡ Err r → have_at s at ≡ Err r
      unfolding have_at after_listed after_part after_filter
      have_no_filter r e = rw (syncs, part, e)

      pub have_read : (f : FilterNumbers) (next : ℕ) → filter_at s from end ≡ Ok (f, next) → have_at s at ≡ Ok (sync, f, end)
      unfolding have_at after_listed after_part after_filter
      have_read f next e = rw (syncs, part, e)

  pub have_stopped : (r : Refusal) → have_at s at ≡ Err r → have_item s at ≡ stopped r
  unfolding have_item have_words_of
  have_stopped r e = rw e

  pub have_item_lem : (sync : Run) (f : FilterNumbers) (next : ℕ) → have_at s at ≡ Ok (sync, f, next) → have_item s at ≡ item (have_word_list sync f) next
  unfolding have_item have_words_of
  have_item_lem sync f next e = rw e

  -- ---- one chunk

  pub chunk_stopped : (r : Refusal) → prefixed_at s at (length s) ≡ Err r → chunk_item s at ≡ stopped r
  unfolding chunk_item after_part
  chunk_stopped r e = rw e

  pub chunk-item : (start end : ℕ) → prefixed_at s at (length s) ≡ Ok (start, end) → chunk_item s at ≡ item (start ∷ (end - start) ∷ []) end
  unfolding chunk_item after_part
  chunk-item start end e = rw e

-- ---- items one after the other

mul_suc_right : (m k : ℕ) → m * (k + 1) ≡ m * k + m
mul_suc_right m k = rw add-one (mul-suc m k)

pub not_item : {A : Type 0} (r : Refusal) (words : List ℕ) (next : ℕ) → stopped r ≡ item words next → A
not_item r words next e = absurd (let z : ◌≡◌ {A = ℕ} 0 1 = cc in omega arith)

module _ (one : ℕ → Item) (left next : ℕ) where
  pub many_stopped : (r : Refusal) → one next ≡ stopped r → many_at one (suc left) next ≡ stopped r
  unfolding many_at after_item
  many_stopped r e = rw e

  module _ (words : List ℕ) (after : ℕ) (first : one next ≡ item words after) where
    pub many_later : (r : Refusal) → many_at one left after ≡ stopped r → many_at one (suc left) next ≡ stopped r
    unfolding many_at after_item
    many_later r e = rw (first, e)

    pub many_read : (more : List ℕ) (end : ℕ) → many_at one left after ≡ item more end → many_at one (suc left) next ≡ item (words ++ more) end
    unfolding many_at after_item
    many_read more end e = rw (first, e)

-- ---- passing over them

-- what a list is told to be while `left` of its items are still to come
unfoldable pub passing : (ℕ → Item) → ℕ → ℕ → ℕ → ℕ → Result (Run × ℕ) Refusal
passing one start count left next = listed_of (list_from (run start count) (many_at one left next))

module _ (one : ℕ → Item) (start count : ℕ) where
  pub passing_starts : passing one start count (count - 0) start ≡ listed_of (list_from (run start count) (many_at one count start))
  unfolding passing
  passing_starts = let e : count - 0 ≡ count = omega arith in rw e

  pub passing_ends : (k next : ℕ) → count ≤ k → passing one start count (count - k) next ≡ Ok (run start count, next)
  unfolding passing listed_of list_from many_at after_item after_list
  passing_ends k next h = let e : count - k ≡ 0 = omega arith in rw e

  module _ (k next : ℕ) (here : k < count) where
    pub passing_stops : (r : Refusal) → one next ≡ stopped r → passing one start count (count - k) next ≡ Err r
    unfolding passing listed_of list_from after_item after_list
    passing_stops r e =
        let d : count - k ≡ suc (count - (k + 1)) = omega arith in
        rw (d, many_stopped one (count - (k + 1)) next r e)

    pub passing_on : (words : List ℕ) (after : ℕ) → one next ≡ item words after
        → passing one start count (count - k) next ≡ passing one start count (count - (k + 1)) after
    unfolding passing listed_of list_from after_item after_list
    passing_on words after e =
        let d : count - k ≡ suc (count - (k + 1)) = omega arith in
        rw d (go (many_at one (count - (k + 1)) after) refl)
      where
        go : (i : Item) → many_at one (count - (k + 1)) after ≡ i
            → listed_of (list_from (run start count) (many_at one (suc (count - (k + 1))) next))
            ≡ listed_of (list_from (run start count) (many_at one (count - (k + 1)) after))
        go (item more end) q = rw (many_read one (count - (k + 1)) next words after e more end q, q)
        go (stopped r) q = rw (many_later one (count - (k + 1)) next words after e r q, q)

-- ---- putting their words

module _ (one : ℕ → Item) (left next room : ℕ) (all : AllRead (many_at one (suc left) next) room) where
  pub none_refused : (r : Refusal) → one next ≡ stopped r → ⊥
  none_refused r e = not_item r all.words all.next (sym (many_stopped one left next r e) ∙ all.is)

  -- what an item's words leave
  pub record RestRead (words : List ℕ) (after : ℕ) : Type 0 where
    pub fits : length words ≤ room
    pub rest : AllRead (many_at one left after) (room - length words)
    pub joined : words_of (many_at one (suc left) next) ≡ words ++ words_of (many_at one left after)

  pub rest_read : (words : List ℕ) (after : ℕ) → one next ≡ item words after → RestRead words after
  unfolding words_of after_item
  rest_read words after e = go (many_at one left after) refl
    where
      go : (i : Item) → many_at one left after ≡ i → RestRead words after
      go (item more end) q =
          let m = many_read one left next words after e more end q in
          let same : item (words ++ more) end ≡ item all.words all.next = sym m ∙ all.is in
          let w : words ++ more ≡ all.words = cc in
          let long : length words + length more ≡ length all.words = sym (length-append words more) ∙ ap length w in
          record {
            fits = omega (arith, all.fits);
            rest = record { words = more; next = end; is = q; fits = omega (arith, all.fits) };
            joined = rw (m, q);
          }
      go (stopped r) q = not_item r all.words all.next (sym (many_later one left next words after e r q) ∙ all.is)

-- the loop that puts them: what was put and the words of the items still to come make the list that all the words make
module _ (one : ℕ → Item) (size : ℕ) (out₀ : List ℕ) (count start : ℕ) where
  pub record Putting (out : List ℕ) (next k : ℕ) : Type 0 where
    pub upto : k ≤ count
    pub long : length out ≡ length out₀
    pub left : AllRead (many_at one (count - k) next) (length out - size * k)
    pub same : sets out (size * k) (words_of (many_at one (count - k) next)) ≡ sets out₀ 0 (words_of (many_at one count start))

  module _ (out : List ℕ) (next k : ℕ) (p : Putting out next k) where
    pub putting_ends : count ≤ k → out ≡ sets out₀ 0 (words_of (many_at one count start))
    unfolding many_at words_of after_item
    putting_ends h =
        let e : count - k ≡ 0 = omega arith in
        let q : sets out (size * k) (words_of (many_at one 0 next)) ≡ sets out₀ 0 (words_of (many_at one count start)) = rw e at p.same in
        q

    module _ (here : k < count) where
      one_more : AllRead (many_at one (suc (count - (k + 1))) next) (length out - size * k)
      one_more =
          let d : count - k ≡ suc (count - (k + 1)) = omega arith in
          rw d at p.left

      pub putting_refused : (r : Refusal) → one next ≡ stopped r → ⊥
      putting_refused r e = none_refused one (count - (k + 1)) next (length out - size * k) one_more r e

      module _ (words : List ℕ) (after : ℕ) (is : one next ≡ item words after) (sized : length words ≡ size) where
        put_rest : RestRead one (count - (k + 1)) next (length out - size * k) one_more words after
        put_rest = rest_read one (count - (k + 1)) next (length out - size * k) one_more words after is

        pub putting_fits : 0 < size → size * k + size ≤ length out
        putting_fits some = omega (arith, put_rest.fits)

        pub putting_on : (out₁ : List ℕ) → out₁ ≡ sets out (size * k) words → Putting out₁ after (k + 1)
        putting_on out₁ e =
            let d : count - k ≡ suc (count - (k + 1)) = omega arith in
            let m : size * (k + 1) ≡ size * k + size = mul_suc_right size k in
            let l : length out₁ ≡ length out = ap length e ∙ length-sets out (size * k) words in
            let room : length out - size * k - size ≡ length out₁ - size * (k + 1) = omega arith in
            let whole : sets out (size * k) (words ++ words_of (many_at one (count - (k + 1)) after))
            ≡ sets out₀ 0 (words_of (many_at one count start)) = rw (d, put_rest.joined) at p.same
            in
            let joined : sets (sets out (size * k) words) (size * k + size) (words_of (many_at one (count - (k + 1)) after))
            ≡ sets out (size * k) (words ++ words_of (many_at one (count - (k + 1)) after)) =
            rw sized at (sets_append words (words_of (many_at one (count - (k + 1)) after)) out (size * k))
            in
            record {
              upto = omega arith;
              long = l ∙ p.long;
              left = rw (sized, room) at put_rest.rest;
              same = rw (m, e) (joined ∙ whole);
            }

-- ---- a count and its items

module _ (limit : ℕ) (one : ℕ → Item) (s : List ℕ) (at : ℕ) where
  pub list_refused : (r : Refusal) → count_at limit s at (length s) ≡ Err r → list_at limit one s at ≡ no_list r
  unfolding list_at after_number
  list_refused r e = rw e

  pub list_read : (count start : ℕ) → count_at limit s at (length s) ≡ Ok (count, start)
      → list_at limit one s at ≡ list_from (run start count) (many_at one count start)
  unfolding list_at after_number
  list_read count start e = rw e

module _ (s : List ℕ) (at : ℕ) where
  pub haves_refused : (r : Refusal) → count_at sizes.haves s at (length s) ≡ Err r → listed_of (haves_at s at) ≡ Err r
  unfolding haves_at listed_of after_list
  haves_refused r e = rw (list_refused sizes.haves (have_item s) s at r e)

  pub haves_listed : (count start : ℕ) → count_at sizes.haves s at (length s) ≡ Ok (count, start)
      → listed_of (haves_at s at) ≡ listed_of (list_from (run start count) (many_at (have_item s) count start))
  unfolding haves_at
  haves_listed count start e = rw (list_read sizes.haves (have_item s) s at count start e)

  pub chunks_refused : (r : Refusal) → count_at sizes.chunks s at (length s) ≡ Err r → listed_of (chunks_at s at) ≡ Err r
  unfolding chunks_at listed_of after_list
  chunks_refused r e = rw (list_refused sizes.chunks (chunk_item s) s at r e)

  pub chunks_listed : (count start : ℕ) → count_at sizes.chunks s at (length s) ≡ Ok (count, start)
      → listed_of (chunks_at s at) ≡ listed_of (list_from (run start count) (many_at (chunk_item s) count start))
  unfolding chunks_at
  chunks_listed count start e = rw (list_read sizes.chunks (chunk_item s) s at count start e)

-- ---- what stands behind items that were read

-- the first of many items, and the rest
module _ (one : ℕ → Item) (at : ℕ) (words : List ℕ) (next : ℕ) where
  pub record ManyBehind (count : ℕ) : Type 0 where
    pub first : List ℕ
    pub more : List ℕ
    pub after : ℕ
    pub is : one at ≡ item first after
    pub rest : many_at one count after ≡ item more next
    pub are : first ++ more ≡ words

  pub many_behind : (count : ℕ) → many_at one (suc count) at ≡ item words next → ManyBehind count
  many_behind count e = go (one at) refl
    where
      rest : (first : List ℕ) (after : ℕ) → one at ≡ item first after → (i : Item) → many_at one count after ≡ i → ManyBehind count
      rest first after q (item more end) d =
          let same : item (first ++ more) end ≡ item words next = sym (many_read one count at first after q more end d) ∙ e in
          let l : end ≡ next = cc in
          record { first = first; more = more; after = after; is = q; rest = d ∙ ap (item more) l; are = cc }
      rest first after q (stopped r) d = not_item r words next (sym (many_later one count at first after q r d) ∙ e)

      go : (i : Item) → one at ≡ i → ManyBehind count
      go (item first after) q = rest first after q (many_at one count after) refl
      go (stopped r) q = not_item r words next (sym (many_stopped one count at r q) ∙ e)

  pub none_behind : many_at one 0 at ≡ item words next → (words ≡ []) × (at ≡ next)
  unfolding many_at
  none_behind e = (cc, cc)

-- many items of one size
module _ (one : ℕ → Item) (size : ℕ) (sized : (at : ℕ) (words : List ℕ) (next : ℕ) → one at ≡ item words next → length words ≡ size) where
  pub many_sized : (count at : ℕ) (words : List ℕ) (next : ℕ) → many_at one count at ≡ item words next → length words ≡ size * count
  many_sized zero at words next e = rw (none_behind one at words next e).0 (omega arith)
  many_sized (suc count) at words next e =
      let b = many_behind one at words next count e in
      let x = sized at b.first b.after b.is in
      let y = many_sized count b.after b.more next b.rest in
      rw (← b.are, length-append b.first b.more, mul-suc size count) (omega arith)

-- items that end below a bound
module _ (one : ℕ → Item) (bound : ℕ) (below : (at : ℕ) (words : List ℕ) (next : ℕ) → one at ≡ item words next → next ≤ bound) where
  pub many_below : (count at : ℕ) (words : List ℕ) (next : ℕ) → at ≤ bound → many_at one count at ≡ item words next → next ≤ bound
  many_below zero at words next h e = omega (arith, (none_behind one at words next e).1)
  many_below (suc count) at words next h e =
      let b = many_behind one at words next count e in
      many_below count b.after b.more next (below at b.first b.after b.is) b.rest

-- a have and a chunk, from their words
module _ (s : List ℕ) (at : ℕ) (words : List ℕ) (next : ℕ) where
  pub record HaveBehind : Type 0 where
    pub sync : Run
    pub i : ℕ
    pub from : ℕ
    pub numbers : FilterNumbers
    pub past : ℕ
    pub syncs : hash_list_at s at (length s) ≡ Ok (sync, i)
    pub part : prefixed_at s i (length s) ≡ Ok (from, next)
    pub filter : filter_at s from next ≡ Ok (numbers, past)
    pub are : words ≡ have_word_list sync numbers

  pub have_behind : have_item s at ≡ item words next → HaveBehind
  have_behind e = syncs (hash_list_at s at (length s)) refl
    where
      filter : (sync : Run) (i from end : ℕ) → hash_list_at s at (length s) ≡ Ok (sync, i) → prefixed_at s i (length s) ≡ Ok (from, end)
          → (x : Result (FilterNumbers × ℕ) Refusal) → filter_at s from end ≡ x → HaveBehind
      filter sync i from end f g (Ok (numbers, past)) h =
          let read = have_item_lem s at sync numbers end (have_read s at sync i f from end g numbers past h) in
          let same : item (have_word_list sync numbers) end ≡ item words next = sym read ∙ e in
          let l : end ≡ next = cc in
          record {
            sync = sync;
            i = i;
            from = from;
            numbers = numbers;
            past = past;
            syncs = f;
            part = rw l at g;
            filter = rw l at h;
            are = cc;
          }
      filter sync i from end f g (Err r) h =
          not_item r words next (sym (have_stopped s at r (have_no_filter s at sync i f from end g r h)) ∙ e)

      part : (sync : Run) (i : ℕ) → hash_list_at s at (length s) ≡ Ok (sync, i) → (x : Result (ℕ × ℕ) Refusal) → prefixed_at s i (length s) ≡ x → HaveBehind
      part sync i f (Ok (from, end)) g = filter sync i from end f g (filter_at s from end) refl
      part sync i f (Err r) g = not_item r words next (sym (have_stopped s at r (have_no_part s at sync i f r g)) ∙ e)

      syncs : (x : Result (Run × ℕ) Refusal) → hash_list_at s at (length s) ≡ x → HaveBehind
      syncs (Ok (sync, i)) f = part sync i f (prefixed_at s i (length s)) refl
      syncs (Err r) f = not_item r words next (sym (have_stopped s at r (have_no_list s at r f)) ∙ e)

  pub record ChunkBehind : Type 0 where
    pub start : ℕ
    pub part : prefixed_at s at (length s) ≡ Ok (start, next)
    pub are : words ≡ start ∷ (next - start) ∷ []

  pub chunk_behind : chunk_item s at ≡ item words next → ChunkBehind
  chunk_behind e = part (prefixed_at s at (length s)) refl
    where
      part : (x : Result (ℕ × ℕ) Refusal) → prefixed_at s at (length s) ≡ x → ChunkBehind
      part (Ok (start, end)) g =
          let same : item (start ∷ (end - start) ∷ []) end ≡ item words next = sym (chunk-item s at start end g) ∙ e in
          let l : end ≡ next = cc in
          let w : start ∷ (end - start) ∷ [] ≡ words = cc in
          record { start = start; part = rw l at g; are = sym (rw l at w) }
      part (Err r) g = not_item r words next (sym (chunk_stopped s at r g) ∙ e)

pub have_sized : (s : List ℕ) (at : ℕ) (words : List ℕ) (next : ℕ) → have_item s at ≡ item words next → length words ≡ have_words
have_sized s at words next e = rw (have_behind s at words next e).are

pub chunk_sized : (s : List ℕ) (at : ℕ) (words : List ℕ) (next : ℕ) → chunk_item s at ≡ item words next → length words ≡ chunk_words
chunk_sized s at words next e = rw (chunk_behind s at words next e).are

pub have_below : (s : List ℕ) (at : ℕ) (words : List ℕ) (next : ℕ) → have_item s at ≡ item words next → next ≤ length s
have_below s at words next e =
    let b = have_behind s at words next e in
    (prefixed_inside s b.i (length s) b.from next b.part).there

pub chunk_below : (s : List ℕ) (at : ℕ) (words : List ℕ) (next : ℕ) → chunk_item s at ≡ item words next → next ≤ length s
chunk_below s at words next e =
    let b = chunk_behind s at words next e in
    (prefixed_inside s at (length s) b.start next b.part).there

-- a list
module _ (limit : ℕ) (one : ℕ → Item) (s : List ℕ) (at : ℕ) (items : Run) (words : List ℕ) (next : ℕ) where
  pub record ListBehind : Type 0 where
    pub number : count_at limit s at (length s) ≡ Ok (items.count, items.start)
    pub each : many_at one items.count items.start ≡ item words next

  pub list_behind : list_at limit one s at ≡ list items words next → ListBehind
  unfolding list_from after_item
  list_behind e = number (count_at limit s at (length s)) refl
    where
      each : (many from : ℕ) → count_at limit s at (length s) ≡ Ok (many, from) → (i : Item) → many_at one many from ≡ i → ListBehind
      each many from q (item w end) d =
          let same : list (run from many) w end ≡ list items words next =
          sym (list_read limit one s at many from q ∙ ap (list_from (run from many)) d) ∙ e
          in
          let r : run from many ≡ items = cc in
          let a : from ≡ items.start = ap (λ (x : Run). x.start) r in
          let b : many ≡ items.count = ap (λ (x : Run). x.count) r in
          let i : item w end ≡ item words next = cc in
          record { number = rw (a, b) at q; each = (rw (a, b) at d) ∙ i }
      each many from q (stopped r) d =
          let same : no_list r ≡ list items words next = sym (list_read limit one s at many from q ∙ ap (list_from (run from many)) d) ∙ e in
          absurd (let z : ◌≡◌ {A = ℕ} 0 1 = cc in omega arith)

      number : (x : Result (ℕ × ℕ) Refusal) → count_at limit s at (length s) ≡ x → ListBehind
      number (Ok (many, from)) q = each many from q (many_at one many from) refl
      number (Err r) q =
          let same : no_list r ≡ list items words next = sym (list_refused limit one s at r q) ∙ e in
          absurd (let z : ◌≡◌ {A = ℕ} 0 1 = cc in omega arith)

-- ---- lists without their words

pub listed_refused : (l : ItemList) (r : Refusal) → listed_of l ≡ Err r → l ≡ no_list r
unfolding listed_of after_list
listed_refused (list items words next) r e = absurd (let z : ◌≡◌ {A = ℕ} 0 1 = cc in omega arith)
listed_refused (no_list q) r e = cc

pub listed_items : (l : ItemList) (items : Run) (next : ℕ) → listed_of l ≡ Ok (items, next)
    → record { words : List ℕ; is : l ≡ list items words next }
unfolding listed_of after_list
listed_items (list items₁ words next₁) items next e = let q = read_same e in record { words = words; is = cc (q.0, q.1) }
listed_items (no_list q) items next e = absurd (let z : ◌≡◌ {A = ℕ} 0 1 = cc in omega arith)

-- ---- how many words there are

module _ (s : List ℕ) (at : ℕ) (items : Run) (words : List ℕ) (next : ℕ) where
  pub record ItemsBehind (limit size : ℕ) (one : ℕ → Item) : Type 0 where
    pub few : items.count ≤ limit
    pub after : at < items.start
    pub there : items.start ≤ length s
    pub each : many_at one items.count items.start ≡ item words next
    pub long : length words ≡ size * items.count
    pub up_to : next ≤ length s

  pub haves_behind : haves_at s at ≡ list items words next → ItemsBehind sizes.haves have_words (have_item s)
  unfolding haves_at
  haves_behind e =
      let b = list_behind sizes.haves (have_item s) s at items words next e in
      let c = count_inside sizes.haves s at (length s) items.count items.start b.number in
      record {
        few = c.small;
        after = c.after;
        there = c.there;
        each = b.each;
        long = many_sized (have_item s) have_words (have_sized s) items.count items.start words next b.each;
        up_to = many_below (have_item s) (length s) (have_below s) items.count items.start words next c.there b.each;
      }

  pub chunks_behind : chunks_at s at ≡ list items words next → ItemsBehind sizes.chunks chunk_words (chunk_item s)
  unfolding chunks_at
  chunks_behind e =
      let b = list_behind sizes.chunks (chunk_item s) s at items words next e in
      let c = count_inside sizes.chunks s at (length s) items.count items.start b.number in
      record {
        few = c.small;
        after = c.after;
        there = c.there;
        each = b.each;
        long = many_sized (chunk_item s) chunk_words (chunk_sized s) items.count items.start words next b.each;
        up_to = many_below (chunk_item s) (length s) (chunk_below s) items.count items.start words next c.there b.each;
      }
