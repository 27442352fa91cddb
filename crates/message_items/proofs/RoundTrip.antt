-- Reading haves and chunks that were written gives them back, and ignores nothing. Items one after the other are read one after the other whatever an item is; a have and
-- a chunk give their one-item laws, and the laws of hash lists, prefixed strings and filters do the rest.
use Prim.Native.Nat.{ℕ, suc, ◌+◌, ◌-◌, ◌*◌, ◌≤◌}
use mathlib.Core.Bool.{true}
use mathlib.Core.List.{List, [], ◌∷◌, ◌++◌, append_assoc, append-nil}
use mathlib.Core.Path.{◌≡◌, refl, sym, ◌∙◌, ap, subst}
use native.Mathlib.Omega.{arith}
use lib.ListN.{length, length-append}
use lib.Seq.{slice, length-slice}
use Rattle.bloom.specs.Filter.{Filter, filter_of4, filter_rules, filter_bytes, default_bits, default_probes}
use Rattle.bloom.specs.Have.{Have, have_words, have_count, numbers_of, filter_with, have_in, haves_from, haves_of}
use Rattle.bloom.specs.declared.have.FilterNumbers.{FilterNumbers}
use Rattle.bloom.specs.FilterIgnored.{ignored_at}
use Rattle.bloom.specs.FilterRead.{filter_at}
use Rattle.bloom.proofs.Filters.{no_bytes, filter_written, default_written}
use Rattle.bloom.proofs.IgnoredLaws.{ignored_none, ignored_written}
use Rattle.message.specs.Message.{joined, counted, total, have_bytes}
use Rattle.message.specs.Sound.{Each, SoundHave, FilterReadsBack, entries, default, HaveReadsBack}
use Rattle.rules.specs.Hash.{hashes_at}
use Rattle.rules.specs.Sizes.{sizes}
use Rattle.rules.proofs.Hash.{slice_parts}
use Rattle.wire.specs.Item.{run, left_at, after_part, after_listed, prefixed_at, hash_list_at, prefixed_bytes, hash_list_bytes}
use Rattle.leb128.specs.Number.{shortest, most64}
use Rattle.wire.specs.declared.parse.Run.{Run}
use Rattle.wire.proofs.Item.{count_checks, prefixed_inside, prefixed_written, hash_list_inside, hash_list_written}
use Rattle.leb128.proofs.Meaning.{number_inside, number_written}
use Rattle.leb128.proofs.Number.{slice_past}
use Rattle.message_items.specs.Items.{Item, item, after_item, have_word_list, have_item, chunk_item, many_at, list, list_from, list_at, haves_at, chunks_at, chunks_of}
use Rattle.message_items.specs.ItemsIgnored.{have_ignored, ignored_from}
use Rattle.message_items.proofs.IgnoredLaws.{ignored_on}
use Rattle.message_items.proofs.ItemLaws.{have_read, have_item_lem, chunk-item, many_read, many_sized, have_sized, have_below, chunk_below, list_read}
use Rattle.message_items.proofs.Words.{first_word, word}
use Rattle.std.specs.Prelude.{Ok}

-- ---- items one after the other

-- what stands behind bytes that were read
pub onward : (s a b : List ℕ) (at : ℕ) → at + length a ≤ length s → slice at (length s) s ≡ a ++ b → slice (at + length a) (length s) s ≡ b
onward s a b at h same = (slice_parts (length a) at (length s) s a b h refl same).1

-- bytes at a place of a slice are no longer than it
no_longer : (s a b : List ℕ) (at : ℕ) → slice at (length s) s ≡ a ++ b → length a ≤ length s
no_longer s a b at same =
    let l : length s - at ≡ length a + length b = sym (length-slice at (length s) s (omega arith)) ∙ ap length same ∙ length-append a b in
    omega arith

pub prefixed_longer : (t : List ℕ) → length t ≤ length (prefixed_bytes t)
unfolding prefixed_bytes
prefixed_longer t = omega (arith, length-append (shortest (length t)) t)

-- words that say one value each, one value after the other
unfoldable pub SayAll : {A : Type 0} → (List ℕ → A → Type 0) → List ℕ → List A → Type 0
SayAll Says words [] = words ≡ []
SayAll Says words (x ∷ xs) = (w : List ℕ) × (ws : List ℕ) × (w ++ ws ≡ words) × Says w x × SayAll Says ws xs

record OneWritten {A : Type 0} (bytes : A → List ℕ) (one : ℕ → Item) (Says : List ℕ → A → Type 0) (at : ℕ) (x : A) : Type 0 where
  words : List ℕ
  is : one at ≡ item words (at + length (bytes x))
  says : Says words x

record ManyWritten {A : Type 0} (bytes : A → List ℕ) (one : ℕ → Item) (Says : List ℕ → A → Type 0) (at : ℕ) (xs : List A) : Type 0 where
  words : List ℕ
  is : many_at one (length xs) at ≡ item words (at + length (joined bytes xs))
  says : SayAll Says words xs

module _ {A : Type 0} (bytes : A → List ℕ) (s : List ℕ) (one : ℕ → Item) (Good : A → Type 0) (Says : List ℕ → A → Type 0)
    (below : (at : ℕ) (words : List ℕ) (next : ℕ) → one at ≡ item words next → next ≤ length s)
    (single : (x : A) → Good x → (at : ℕ) (rest : List ℕ) → slice at (length s) s ≡ bytes x ++ rest → OneWritten bytes one Says at x) where
  many_written : (xs : List A) → Each Good xs → (at : ℕ) (rest : List ℕ) → slice at (length s) s ≡ joined bytes xs ++ rest
      → ManyWritten bytes one Says at xs
  unfolding joined Each SayAll many_at
  many_written [] good at rest same =
      let e : at + 0 ≡ at = omega arith in
      record { words = []; is = rw e; says = refl }
  many_written (x ∷ xs) good at rest same =
      let first : slice at (length s) s ≡ bytes x ++ (joined bytes xs ++ rest) = same ∙ append_assoc (bytes x) (joined bytes xs) rest in
      let o = single x good.0 at (joined bytes xs ++ rest) first in
      let inside = below at o.words (at + length (bytes x)) o.is in
      let m = many_written xs good.1 (at + length (bytes x)) rest (onward s (bytes x) (joined bytes xs ++ rest) at inside first) in
      let end : at + length (bytes x) + length (joined bytes xs) ≡ at + length (bytes x ++ joined bytes xs) =
      omega (arith, length-append (bytes x) (joined bytes xs))
      in
      let is = many_read one (length xs) at o.words (at + length (bytes x)) o.is m.words (at + length (bytes x) + length (joined bytes xs)) m.is in
      record { words = o.words ++ m.words; is = rw end at is; says = (o.words, m.words, refl, o.says, m.says) }

-- ---- a count and its items

record ListWritten {A : Type 0} (limit : ℕ) (bytes : A → List ℕ) (s : List ℕ) (one : ℕ → Item) (Says : List ℕ → A → Type 0) (at : ℕ) (xs : List A) : Type 0 where
  start : ℕ
  words : List ℕ
  is : list_at limit one s at ≡ list (run start (length xs)) words (at + length (counted bytes xs))
  says : SayAll Says words xs
  items : many_at one (length xs) start ≡ item words (at + length (counted bytes xs))
  there : at + length (counted bytes xs) ≤ length s
  rest : List ℕ
  body : slice start (length s) s ≡ joined bytes xs ++ rest

module _ {A : Type 0} (limit : ℕ) (bytes : A → List ℕ) (s : List ℕ) (one : ℕ → Item) (Good : A → Type 0) (Says : List ℕ → A → Type 0)
    (below : (at : ℕ) (words : List ℕ) (next : ℕ) → one at ≡ item words next → next ≤ length s)
    (single : (x : A) → Good x → (at : ℕ) (rest : List ℕ) → slice at (length s) s ≡ bytes x ++ rest → OneWritten bytes one Says at x)
    (most : limit ≤ most64) where
  list_written : (xs : List A) → Each Good xs → length xs ≤ limit → (at : ℕ) (rest : List ℕ) → slice at (length s) s ≡ counted bytes xs ++ rest
      → ListWritten limit bytes s one Says at xs
  unfolding counted list_from after_item
  list_written xs good few at rest same =
      let n : ℕ = length xs in
      let start : ℕ = at + length (shortest n) in
      let first : slice at (length s) s ≡ shortest n ++ (joined bytes xs ++ rest) = same ∙ append_assoc (shortest n) (joined bytes xs) rest in
      let number = number_written most64 s at (length s) n (joined bytes xs ++ rest) (omega arith) first in
      let inside = number_inside most64 s at (length s) n start number in
      let count = (count_checks limit s at (length s)).put n start number few in
      let body = onward s (shortest n) (joined bytes xs ++ rest) at inside.there first in
      let m = many_written bytes s one Good Says below single xs good start rest body in
      let end : start + length (joined bytes xs) ≡ at + length (shortest n ++ joined bytes xs) =
      omega (arith, length-append (shortest n) (joined bytes xs))
      in
      let items = rw end at m.is in
      let l : length s - start ≡ length (joined bytes xs) + length rest =
      sym (length-slice start (length s) s (omega arith)) ∙ ap length body ∙ length-append (joined bytes xs) rest
      in
      record {
        start = start;
        words = m.words;
        is = list_read limit one s at n start count ∙ ap (list_from (run start n)) items;
        says = m.says;
        items = items;
        there = omega (arith, inside.there);
        rest = rest;
        body = body;
      }

-- ---- a chunk

-- what a chunk's words say
unfoldable pub ChunkSays : List ℕ → List ℕ → List ℕ → Type 0
ChunkSays s words t = (start : ℕ) × (size : ℕ) × (words ≡ start ∷ size ∷ []) × (slice start (start + size) s ≡ t)

-- any bytes are a chunk
abbrev AnyChunk : List ℕ → Type 0
AnyChunk t = Unit {0}

chunk_written : (s : List ℕ) → length s ≤ sizes.message → (t : List ℕ) → AnyChunk t → (at : ℕ) (rest : List ℕ)
    → slice at (length s) s ≡ prefixed_bytes t ++ rest
    → OneWritten prefixed_bytes (chunk_item s) (ChunkSays s) at t
unfolding ChunkSays
chunk_written s small t any at rest same =
    let long : length (prefixed_bytes t) ≤ length s = no_longer s (prefixed_bytes t) rest at same in
    let fits : length t ≤ most64 = omega (arith, prefixed_longer t) in
    let w = prefixed_written s t rest at (length s) fits same in
    let start : ℕ = at + length (shortest (length t)) in
    let end : ℕ = at + length (prefixed_bytes t) in
    let inside = prefixed_inside s at (length s) start end w.0 in
    let e : start + (end - start) ≡ end = omega (arith, inside.upward) in
    record {
      words = start ∷ (end - start) ∷ [];
      is = chunk-item s at start end w.0;
      says = (start, end - start, refl, rw e w.1);
    }

pub chunks_said : (s : List ℕ) (ts : List (List ℕ)) (words : List ℕ) → SayAll (ChunkSays s) words ts → chunks_of s words ≡ ts
unfolding SayAll ChunkSays chunks_of
chunks_said s [] words e = rw e
chunks_said s (t ∷ ts) words e =
    let c = e.3 in
    let is : words ≡ c.0 ∷ c.1 ∷ e.1 = sym e.2 ∙ ap (λ (w : List ℕ). w ++ e.1) c.2 in
    rw (is, c.3, chunks_said s ts e.1 e.4)

any_chunks : (ts : List (List ℕ)) → Each AnyChunk ts
unfolding Each
any_chunks [] = tt
any_chunks (t ∷ ts) = (tt, any_chunks ts)

-- ---- a have

abbrev have_of_lem : List ℕ → Filter → Have
have_of_lem syncs filter = record { last_sync = syncs; filter = filter }

-- what a have's words say
pub record HaveSays (s : List ℕ) (words : List ℕ) (h : Have) : Type 0 where
  pub sync : Run
  pub numbers : FilterNumbers
  pub are : words ≡ have_word_list sync numbers
  pub syncs : hashes_at s sync.start sync.count ≡ h.last_sync
  pub filter : filter_with s numbers ≡ h.filter

-- a filter in its part
record FilterWritten (s : List ℕ) (from end : ℕ) (f : Filter) : Type 0 where
  numbers : FilterNumbers
  next : ℕ
  is : filter_at s from end ≡ Ok (numbers, next)
  says : filter_with s numbers ≡ f

filter_back : (s : List ℕ) (from end : ℕ) (f : Filter) → filter_rules f.entries f.bits f.probes (length f.field) ≡ true → FilterReadsBack f
    → slice from end s ≡ filter_bytes f
    → FilterWritten s from end f
unfolding filter_with
filter_back s from end f rules (entries h) same =
    let w = filter_written s [] from end f rules h (same ∙ sym (append-nil (filter_bytes f))) in
    let place : ℕ = from + length (shortest f.entries) + length (shortest f.bits) + length (shortest f.probes) in
    record {
      numbers = numbers_of f.entries f.bits f.probes place (length f.field);
      next = place + length f.field;
      is = w.0;
      says = ap (filter_of4 f.entries f.bits f.probes) w.1;
    }
filter_back s from end f rules (default e) same =
    let none : filter_bytes f ≡ [] = ap filter_bytes e ∙ no_bytes 0 default_bits default_probes [] refl in
    record {
      numbers = numbers_of 0 default_bits default_probes from 0;
      next = from;
      is = default_written s from end (same ∙ none);
      says = ap (filter_of4 0 default_bits default_probes) (slice_past s from (from + 0) (omega arith)) ∙ sym e;
    }

-- a hash list, a prefixed string and the filter in it are a have
have_joined : (s : List ℕ) (h : Have) (at : ℕ) (sync : Run) (i from end : ℕ)
    → hash_list_at s at (length s) ≡ Ok (sync, i)
    → hashes_at s sync.start sync.count ≡ h.last_sync
    → prefixed_at s i (length s) ≡ Ok (from, end)
    → end ≡ at + length (have_bytes h)
    → FilterWritten s from end h.filter
    → OneWritten have_bytes (have_item s) (HaveSays s) at h
have_joined s h at sync i from end syncs are part e f =
    let words : List ℕ = have_word_list sync f.numbers in
    let read = have_read s at sync i syncs from end part f.numbers f.next f.is in
    let is : have_item s at ≡ item words end = have_item_lem s at sync f.numbers end read in
    record {
      words = words;
      is = rw e at is;
      says =
          record {
            sync = sync;
            numbers = f.numbers;
            are = refl;
            syncs = are;
            filter = f.says;
          };
    }

-- a have that is written, and that its bytes say
abbrev GoodHave : Have → Type 0
GoodHave h = SoundHave h × HaveReadsBack h

good_haves : (hs : List Have) → Each SoundHave hs → Each HaveReadsBack hs → Each GoodHave hs
unfolding Each
good_haves [] sound said = tt
good_haves (h ∷ hs) sound said = ((sound.0, said.0), good_haves hs sound.1 said.1)

have_written : (s : List ℕ) → length s ≤ sizes.message → (h : Have) → GoodHave h → (at : ℕ) (rest : List ℕ)
    → slice at (length s) s ≡ have_bytes h ++ rest
    → OneWritten have_bytes (have_item s) (HaveSays s) at h
unfolding have_bytes
have_written s small h good at rest same =
    let hl : List ℕ = hash_list_bytes h.last_sync in
    let fb : List ℕ = filter_bytes h.filter in
    let first : slice at (length s) s ≡ hl ++ (prefixed_bytes fb ++ rest) = same ∙ append_assoc hl (prefixed_bytes fb) rest in
    let l = hash_list_written s h.last_sync (prefixed_bytes fb ++ rest) at (length s) good.0.last_sync.are good.0.last_sync.few first in
    let sync : Run = run (at + length (shortest (length h.last_sync))) (length h.last_sync) in
    let i : ℕ = at + length hl in
    let inside = hash_list_inside s at (length s) sync i l.0 in
    let second = onward s hl (prefixed_bytes fb ++ rest) at inside.there first in
    let long : length (prefixed_bytes fb) ≤ length s = no_longer s (prefixed_bytes fb) rest i second in
    let q = prefixed_written s fb rest i (length s) (omega (arith, prefixed_longer fb)) second in
    let from : ℕ = i + length (shortest (length fb)) in
    let end : ℕ = i + length (prefixed_bytes fb) in
    have_joined s h at sync i from end l.0 l.1 q.0 (omega (arith, length-append hl (prefixed_bytes fb)))
    (filter_back s from end h.filter good.0.filter good.1 q.1)

-- ---- nothing is ignored

filter_nothing : (s : List ℕ) (from end : ℕ) (f : Filter) → filter_rules f.entries f.bits f.probes (length f.field) ≡ true → FilterReadsBack f
    → from ≤ end
    → end ≤ length s
    → slice from end s ≡ filter_bytes f
    → ignored_at s from end ≡ 0
unfolding left_at
filter_nothing s from end f rules (entries h) up there same = ignored_written s from end f rules h up there same
filter_nothing s from end f rules (default e) up there same =
    let none : filter_bytes f ≡ [] = ap filter_bytes e ∙ no_bytes 0 default_bits default_probes [] refl in
    ignored_none s from end (ap length (same ∙ none))

have_nothing : (s : List ℕ) → length s ≤ sizes.message → (h : Have) → GoodHave h → (at : ℕ) (rest : List ℕ)
    → slice at (length s) s ≡ have_bytes h ++ rest
    → have_ignored s at ≡ 0
unfolding have_bytes have_ignored after_listed after_part
have_nothing s small h good at rest same =
    let hl : List ℕ = hash_list_bytes h.last_sync in
    let fb : List ℕ = filter_bytes h.filter in
    let first : slice at (length s) s ≡ hl ++ (prefixed_bytes fb ++ rest) = same ∙ append_assoc hl (prefixed_bytes fb) rest in
    let l = hash_list_written s h.last_sync (prefixed_bytes fb ++ rest) at (length s) good.0.last_sync.are good.0.last_sync.few first in
    let i : ℕ = at + length hl in
    let inside = hash_list_inside s at (length s) (run (at + length (shortest (length h.last_sync))) (length h.last_sync)) i l.0 in
    let second = onward s hl (prefixed_bytes fb ++ rest) at inside.there first in
    let long : length (prefixed_bytes fb) ≤ length s = no_longer s (prefixed_bytes fb) rest i second in
    let q = prefixed_written s fb rest i (length s) (omega (arith, prefixed_longer fb)) second in
    let from : ℕ = i + length (shortest (length fb)) in
    let end : ℕ = i + length (prefixed_bytes fb) in
    let w = prefixed_inside s i (length s) from end q.0 in
    rw (l.0, q.0) (filter_nothing s from end h.filter good.0.filter good.1 w.upward w.there q.1)

haves_nothing : (s : List ℕ) → length s ≤ sizes.message → (hs : List Have) → Each GoodHave hs → (at : ℕ) (rest : List ℕ)
    → slice at (length s) s ≡ joined have_bytes hs ++ rest
    → total (ignored_from s (length hs) at) ≡ 0
unfolding joined Each ignored_from total
haves_nothing s small [] good at rest same = refl
haves_nothing s small (h ∷ hs) good at rest same =
    let first : slice at (length s) s ≡ have_bytes h ++ (joined have_bytes hs ++ rest) = same ∙ append_assoc (have_bytes h) (joined have_bytes hs) rest in
    let o = have_written s small h good.0 at (joined have_bytes hs ++ rest) first in
    let next : ℕ = at + length (have_bytes h) in
    let inside = have_below s at o.words next o.is in
    let behind = onward s (have_bytes h) (joined have_bytes hs ++ rest) at inside first in
    let one = have_nothing s small h good.0 at (joined have_bytes hs ++ rest) first in
    let more = haves_nothing s small hs good.1 next rest behind in
    rw (ignored_on s (length hs) at o.words next o.is, one, more)

haves_said : (s : List ℕ) (hs : List Have) (i : ℕ) (before words : List ℕ) → length before ≡ i * have_words → SayAll (HaveSays s) words hs
    → haves_from s (before ++ words) i (length hs) ≡ hs
unfolding SayAll haves_from have_in
haves_said s [] i before words long e = refl
haves_said s (h ∷ hs) i before words long e =
    let c = e.3 in
    let more : List ℕ = e.1 in
    let first : List ℕ = have_word_list c.sync c.numbers in
    let is : words ≡ first ++ more = sym e.2 ∙ ap (λ (w : List ℕ). w ++ more) c.are in
    let longer : length (before ++ first) ≡ suc i * have_words = rw (length-append before first, long) (omega arith) in
    let again : haves_from s (before ++ (first ++ more)) (suc i) (length hs) ≡ hs =
    rw (append_assoc before first more) at (haves_said s hs (suc i) (before ++ first) more longer e.4)
    in
    let at = word before more i c.sync c.numbers long in
    let zero = first_word before more i c.sync c.numbers long in
    subst (λ (w : List ℕ). haves_from s (before ++ w) i (suc (length hs)) ≡ h ∷ hs) (sym is)
    (rw (zero, at 1, at 2, at 3, at 4, at 5, at 6, c.syncs, again) (ap (λ (f : Filter). have_of_lem h.last_sync f ∷ hs) c.filter))

pub haves_back : (s : List ℕ) (hs : List Have) (words : List ℕ) → length words ≡ have_words * length hs → SayAll (HaveSays s) words hs → haves_of s words ≡ hs
unfolding haves_of
haves_back s hs words long e =
    let many : have_count words ≡ length hs = omega (arith, long) in
    rw many (haves_said s hs 0 [] words refl e)

-- ---- both lists, as they are read

pub record HavesBack (s : List ℕ) (at : ℕ) (hs : List Have) : Type 0 where
  pub haves : Run
  pub words : List ℕ
  pub is : haves_at s at ≡ list haves words (at + length (counted have_bytes hs))
  pub there : at + length (counted have_bytes hs) ≤ length s
  pub says : haves_of s words ≡ hs
  pub nothing : total (ignored_from s haves.count haves.start) ≡ 0

pub haves_written : (s : List ℕ) → length s ≤ sizes.message → (hs : List Have) → Each SoundHave hs → Each HaveReadsBack hs → length hs ≤ sizes.haves
    → (at : ℕ) (rest : List ℕ)
    → slice at (length s) s ≡ counted have_bytes hs ++ rest
    → HavesBack s at hs
unfolding haves_at
haves_written s small hs sound said few at rest same =
    let w =
    list_written sizes.haves have_bytes s (have_item s) GoodHave (HaveSays s) (have_below s) (have_written s small) (omega arith)
    hs (good_haves hs sound said) few at rest same
    in
    let end : ℕ = at + length (counted have_bytes hs) in
    let long = many_sized (have_item s) have_words (have_sized s) (length hs) w.start w.words end w.items in
    record {
      haves = run w.start (length hs);
      words = w.words;
      is = w.is;
      there = w.there;
      says = haves_back s hs w.words long w.says;
      nothing = haves_nothing s small hs (good_haves hs sound said) w.start w.rest w.body;
    }

pub record ChunksBack (s : List ℕ) (at : ℕ) (ts : List (List ℕ)) : Type 0 where
  pub chunks : Run
  pub words : List ℕ
  pub is : chunks_at s at ≡ list chunks words (at + length (counted prefixed_bytes ts))
  pub there : at + length (counted prefixed_bytes ts) ≤ length s
  pub says : chunks_of s words ≡ ts

pub chunks_written : (s : List ℕ) → length s ≤ sizes.message → (ts : List (List ℕ)) → length ts ≤ sizes.chunks → (at : ℕ) (rest : List ℕ)
    → slice at (length s) s ≡ counted prefixed_bytes ts ++ rest
    → ChunksBack s at ts
unfolding chunks_at
chunks_written s small ts few at rest same =
    let w =
    list_written sizes.chunks prefixed_bytes s (chunk_item s) AnyChunk (ChunkSays s) (chunk_below s) (chunk_written s small) (omega arith)
    ts (any_chunks ts) few at rest same
    in
    record {
      chunks = run w.start (length ts);
      words = w.words;
      is = w.is;
      there = w.there;
      says = chunks_said s ts w.words w.says;
    }
