-- What is written are bytes, if what the host lends are: hashes, numbers, filters' fields, messages. Assumes nothing.
use Prim.Native.Nat.{ℕ, zero, suc, ◌+◌, ◌%◌, ◌<◌}
use mathlib.Core.List.{List, [], ◌∷◌, ◌++◌, map}
use mathlib.Core.Path.{◌≡◌, refl}
use native.Mathlib.Omega.{arith}
use lib.Dec.{eqb}
use lib.ListN.{length, set}
use lib.Seq.{sets}
use Rattle.bloom.specs.Filter.{Filter, field_size, filter_bytes}
use Rattle.bloom.specs.Have.{Have}
use Rattle.message.specs.Flags.{section_bytes}
use Rattle.message.specs.Message.{Message, type_of, joined, counted, have_bytes, message_bytes}
use Rattle.message.specs.Sound.{Each}
use Rattle.message.specs.declared.flags.MessageFlags.{MessageFlags}
use Rattle.message.specs.declared.version.MessageVersion.{MessageVersion}
use Rattle.message.specs.declared.version.MessageVersion.TheVariants.{V1, V2}
use Rattle.leb128.specs.Number.{shortest}
use Rattle.leb128.proofs.Meaning.{shortest_bytes}
use Rattle.bloom_probe.specs.Build.{set_bits, add_hash, add_hashes, filter_of}
use Rattle.bloom_probe.specs.Probes.{probes_of}
use Rattle.bloom_probe.proofs.FieldLaws.{bytes_set_bit}
use Rattle.rules.specs.Hash.{Bytes, hash_bytes, hashes_bytes}
use Rattle.rules.specs.Sizes.{sizes}
use Rattle.rules.proofs.ByteLaws.{bytes_none, bytes_cons, bytes_append, zeros_bytes}
use Rattle.rules.proofs.Cases.{split}
use Rattle.rules.proofs.Hash.{bytes_head, bytes_tail, big_endian_bytes_bytes}
use Rattle.session.specs.Laid.{laid_bytes}
use Rattle.session.specs.Plan.{Plan}
use Rattle.wire.specs.Item.{prefixed_bytes, hash_list_bytes}
use Rattle.walk_hosts.specs.Memory.{HostBytes}
use Rattle.session.specs.Written.{Host, list_chunks, chunks_for, message_for}
use Rattle.std.specs.Prelude.{Some}

-- ---- lists

bytes_set : (l : List ℕ) (i x : ℕ) → Bytes l → x < 256 → Bytes (set l i x)
bytes_set [] i x b h = b
bytes_set (y ∷ l) zero x b h = bytes_cons x l h (bytes_tail y l b)
bytes_set (y ∷ l) (suc i) x b h = bytes_cons y (set l i x) (bytes_head y l b) (bytes_set l i x (bytes_tail y l b) h)

pub bytes_sets : (vs l : List ℕ) (i : ℕ) → Bytes l → Bytes vs → Bytes (sets l i vs)
bytes_sets [] l i b v = b
bytes_sets (x ∷ vs) l i b v = bytes_sets vs (set l i x) (suc i) (bytes_set l i x b (bytes_head x vs v)) (bytes_tail x vs v)

pub hashes_bytes_lem : (hs : List ℕ) → Bytes (hashes_bytes hs)
unfolding hashes_bytes hash_bytes
hashes_bytes_lem [] = bytes_none
hashes_bytes_lem (h ∷ hs) = bytes_append (hash_bytes h) (hashes_bytes hs) (big_endian_bytes_bytes sizes.hash h) (hashes_bytes_lem hs)

joined_bytes : {A : Type 0} (f : A → List ℕ) (xs : List A) → Each (λ (x : A). Bytes (f x)) xs → Bytes (joined f xs)
unfolding joined Each
joined_bytes f [] e = bytes_none
joined_bytes f (x ∷ xs) e = bytes_append (f x) (joined f xs) e.0 (joined_bytes f xs e.1)

-- ---- filters and haves

bits_bytes : (ks field : List ℕ) → Bytes field → Bytes (set_bits field ks)
unfolding set_bits
bits_bytes [] field b = b
bits_bytes (k ∷ ks) field b = bits_bytes ks _ (bytes_set_bit field k b)

added_bytes : (p : ℕ) (hs field : List ℕ) → Bytes field → Bytes (add_hashes p field hs)
unfolding add_hashes add_hash
added_bytes p [] field b = b
added_bytes p (h ∷ hs) field b = added_bytes p hs _ (bits_bytes (probes_of _ p h) field b)

pub field_bytes : (b p : ℕ) (hs : List ℕ) → Bytes (filter_of b p hs).field
unfolding filter_of
field_bytes b p hs = added_bytes p hs _ (zeros_bytes (field_size (length hs) b))

-- A have whose field are bytes.
abbrev pub FieldBytes : Have → Type 0
FieldBytes v = Bytes v.filter.field

pub laid_bytes_lem : (vs : List Have) → Each FieldBytes vs → Bytes (laid_bytes vs)
unfolding laid_bytes Each
laid_bytes_lem [] e = bytes_none
laid_bytes_lem (v ∷ vs) e =
    bytes_append (hashes_bytes v.last_sync) _ (hashes_bytes_lem v.last_sync) (bytes_append v.filter.field _ e.0 (laid_bytes_lem vs e.1))

-- ---- messages

list_bytes : (hs : List ℕ) → Bytes (hash_list_bytes hs)
unfolding hash_list_bytes
list_bytes hs = bytes_append (shortest (length hs)) (hashes_bytes hs) (shortest_bytes (length hs)) (hashes_bytes_lem hs)

prefixed_bytes_lem : (s : List ℕ) → Bytes s → Bytes (prefixed_bytes s)
unfolding prefixed_bytes
prefixed_bytes_lem s b = bytes_append (shortest (length s)) s (shortest_bytes (length s)) b

filter_bytes_lem : (f : Filter) → Bytes f.field → Bytes (filter_bytes f)
unfolding filter_bytes
filter_bytes_lem f b =
    split (eqb f.entries 0)
    (λ e. rw e bytes_none)
    (λ e.
    rw e
    (bytes_append (shortest f.entries) _ (shortest_bytes f.entries)
    (bytes_append (shortest f.bits) _ (shortest_bytes f.bits) (bytes_append (shortest f.probes) _ (shortest_bytes f.probes) b))))

have_bytes_lem : (v : Have) → FieldBytes v → Bytes (have_bytes v)
unfolding have_bytes
have_bytes_lem v b = bytes_append (hash_list_bytes v.last_sync) _ (list_bytes v.last_sync) (prefixed_bytes_lem _ (filter_bytes_lem v.filter b))

counted_bytes : {A : Type 0} (f : A → List ℕ) (xs : List A) → Each (λ (x : A). Bytes (f x)) xs → Bytes (counted f xs)
unfolding counted
counted_bytes f xs e = bytes_append (shortest (length xs)) _ (shortest_bytes (length xs)) (joined_bytes f xs e)

each_so : {A : Type 0} (P Q : A → Type 0) → ((x : A) → P x → Q x) → (xs : List A) → Each P xs → Each Q xs
unfolding Each
each_so P Q f [] e = tt
each_so P Q f (x ∷ xs) e = (f x e.0, each_so P Q f xs e.1)

pub message_bytes_lem : (m : Message) (f : MessageFlags) → m.flags ≡ Some f → Each FieldBytes m.haves → Each Bytes m.chunks → Bytes (message_bytes m)
unfolding message_bytes section_bytes
message_bytes_lem m f flags haves chunks =
    let flag : ℕ = 0x80 + f.0 % 0x80 in
    let section : Bytes (section_bytes m.flags) =
    rw flags (bytes_cons 2 (2 ∷ flag ∷ []) (omega arith) (bytes_cons 2 (flag ∷ []) (omega arith) (bytes_cons flag [] (omega arith) bytes_none)))
    in
    let last : List ℕ = counted prefixed_bytes m.chunks ++ section_bytes m.flags in
    let lists : List ℕ = counted have_bytes m.haves ++ last in
    let given = counted_bytes have_bytes m.haves (each_so FieldBytes (λ (v : Have). Bytes (have_bytes v)) have_bytes_lem m.haves haves) in
    let lent = counted_bytes prefixed_bytes m.chunks (each_so Bytes (λ (c : List ℕ). Bytes (prefixed_bytes c)) prefixed_bytes_lem m.chunks chunks) in
    bytes_cons (type_of m.version) (hash_list_bytes m.heads ++ (hash_list_bytes m.need ++ lists)) (first m.version)
    (bytes_append (hash_list_bytes m.heads) (hash_list_bytes m.need ++ lists) (list_bytes m.heads)
    (bytes_append (hash_list_bytes m.need) lists (list_bytes m.need)
    (bytes_append (counted have_bytes m.haves) last given
    (bytes_append (counted prefixed_bytes m.chunks) (section_bytes m.flags) lent section))))
  where
    first : (v : MessageVersion) → type_of v < 256
    first V1 = omega arith
    first V2 = omega arith

-- ---- what a host lends

each_one : {A : Type 0} (P : A → Type 0) → ((x : A) → P x) → (xs : List A) → Each P xs
unfolding Each
each_one P f [] = tt
each_one P f (x ∷ xs) = (f x, each_one P f xs)

mapped_bytes : (f : ℕ → List ℕ) → ((h : ℕ) → Bytes (f h)) → (hs : List ℕ) → Each Bytes (map f hs)
unfolding Each
mapped_bytes f b [] = tt
mapped_bytes f b (h ∷ hs) = (b h, mapped_bytes f b hs)

listed_bytes : (host : Host) → HostBytes host → (v : MessageVersion) (hs : List ℕ) → Each Bytes (list_chunks host v hs)
unfolding list_chunks Each
listed_bytes host b V1 hs = mapped_bytes host.change b.change hs
listed_bytes host b V2 [] = tt
listed_bytes host b V2 (h ∷ hs) =
    (joined_bytes host.change (h ∷ hs) (each_one (λ (x : ℕ). Bytes (host.change x)) b.change (h ∷ hs)), tt)

pub chunks_bytes_lem : (host : Host) → HostBytes host → (q : Plan) → Each Bytes (chunks_for host q)
unfolding chunks_for Each
chunks_bytes_lem host b q =
    split q.body.document (λ e. rw e (b.document, tt)) (λ e. rw e (listed_bytes host b q.version q.body.hashes))

-- a plan's message, if its haves' fields are bytes
pub plan_bytes : (host : Host) → HostBytes host → (q : Plan) → Each FieldBytes q.haves → Bytes (message_bytes (message_for host q))
unfolding message_for
plan_bytes host b q e = message_bytes_lem (message_for host q) q.flags refl e (chunks_bytes_lem host b q)
