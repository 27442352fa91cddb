-- 01, Bytes and rows to hold it to: its twelve examples, P1 to P12, in one statement, over the definitions that the contracts cite. Where 01 names a part of
-- a hash, a table or a filter, the rest is any. Byte values are hexadecimal, as in 01.
use Rattle.std.specs.Prelude.{ℕ, ◌+◌, ◌%◌, true, false, List, [], ◌∷◌, ◌≡◌, Result, Ok, Err, Option, Some, None}
use Rattle.std.proofs.Math.Seq.{slice}
use Rattle.bloom.specs.Filter.{filter_of4, filter_bytes, default_bits, default_probes}
use Rattle.bloom.specs.Have.{Have, filter_with}
use Rattle.bloom.specs.FilterRead.{filter_at}
use Rattle.bloom.specs.declared.have.FilterNumbers.{FilterNumbers}
use Rattle.message_read.specs.MessageRead.{read, message_at, message_in}
use Rattle.message_read.specs.declared.parse.Places.{Places}
use Rattle.table_graph.specs.Graph.{beyond, heads}
use Rattle.send_members.specs.Internal.Members.{last_syncs, filters}
use Rattle.message.specs.Flags.{flags_of}
use Rattle.message.specs.Message.{Message, message_bytes}
use Rattle.message.specs.declared.version.MessageVersion.TheVariants.{V1}
use Rattle.hash_order.specs.Order.{Once}
use Rattle.bloom_probe.specs.Build.{filter_of}
use Rattle.bloom_probe.specs.Contains.{contains, any_contains}
use Rattle.bloom_probe.specs.Probes.{probes_of}
use Rattle.rules.specs.Hash.{IsHash, hash_bytes}
use Rattle.rules.specs.LittleEndian.{u32_at}
use Rattle.rules.specs.Refusal.{number_of, value_of}
use Rattle.rules.specs.declared.refusal.Refusal.{Refusal}
use Rattle.send.specs.ToSend.{to_send}
use Rattle.session.specs.Plan.{Plan, Planned, plan}
use Rattle.session_state.specs.Session.{State, fresh, fresh_read_only, set_read_only}
use Rattle.table.specs.Table.{Row}
use Rattle.session.specs.Written.{Host, message_for}
use Rattle.message.specs.declared.flags.MessageFlags.{MessageFlags}

-- P1 to P3, reading: bytes are read as a message.
pub record Reads (s : List ℕ) (m : Message) : Type 0 where
  pub places : Places
  pub have_words : List ℕ
  pub chunk_words : List ℕ
  pub found : message_at s ≡ read places have_words chunk_words
  pub says : message_in s places have_words chunk_words ≡ m

-- A message with nothing but its flags.
abbrev pub empty_message : Option MessageFlags → Message
empty_message flags = record { version = V1; heads = []; need = []; haves = []; chunks = []; flags = flags }

-- P4 and P5: over an empty table, where nothing waits, a message is planned, not a reset, and with whatever the host lends it is written as these bytes.
pub record Writes (s : State) (bytes : List ℕ) : Type 0 where
  pub said : Plan
  pub next : State
  pub speaks : plan default_bits default_probes [] [] s ≡ Planned.says said next
  pub written : (host : Host) → message_bytes (message_for host said) ≡ bytes

-- P6 and P7: a hash by its first three little-endian words; its other bytes are any.
pub record Words (h x y z : ℕ) : Type 0 where
  pub first : u32_at (hash_bytes h) 0 ≡ x
  pub second : u32_at (hash_bytes h) 4 ≡ y
  pub third : u32_at (hash_bytes h) 8 ≡ z

-- P8 and P9: reading a filter is refused, by 01's number and value.
pub record RefusedWith (p : Result (FilterNumbers × ℕ) Refusal) (number value : ℕ) : Type 0 where
  pub refusal : Refusal
  pub is : p ≡ Err refusal
  pub numbered : number_of refusal ≡ number
  pub returned : value_of refusal ≡ value

-- P9: a filter is read, up to `next`.
pub record ReadAs (s : List ℕ) (at end next entries bits probes : ℕ) (field : List ℕ) : Type 0 where
  pub numbers : FilterNumbers
  pub is : filter_at s at end ≡ Ok (numbers, next)
  pub says : filter_with s numbers ≡ filter_of4 entries bits probes field

-- P11 and P12: rows a; b on a; c on a; d on b and c.
abbrev pub four : ℕ → ℕ → ℕ → ℕ → List Row
four a b c d =
    record { hash = a; deps = [] }
    ∷ record { hash = b; deps = 0 ∷ [] }
    ∷ record { hash = c; deps = 0 ∷ [] }
    ∷ record { hash = d; deps = 1 ∷ 2 ∷ [] }
    ∷ []

-- P12: haves that name no last-sync hash, and whose filters miss b alone.
pub record OnlyMissed (haves : List Have) (a b c d : ℕ) : Type 0 where
  pub no_sync : last_syncs haves ≡ []
  pub a_there : any_contains (filters haves) a ≡ true
  pub b_missed : any_contains (filters haves) b ≡ false
  pub c_there : any_contains (filters haves) c ≡ true
  pub d_there : any_contains (filters haves) d ≡ true

-- The premises of P6, P7 and P12 are met.
pub record Met : Type 0 where
  pub words123 : (h : ℕ) × IsHash h × Words h 1 2 3
  pub words100 : (h : ℕ) × IsHash h × Words h 1 0 0
  pub words200 : (h : ℕ) × IsHash h × Words h 2 0 0
  pub only_b : (v : Have) × (a b c d : ℕ) × Once (a ∷ b ∷ c ∷ d ∷ []) × OnlyMissed (v ∷ []) a b c d

-- The list, a name a point.
pub record Examples : Type 0 where
  -- no flags section; a message without one is written so too
  pub p1 : Reads (0x42 ∷ 0x00 ∷ 0x00 ∷ 0x00 ∷ 0x00 ∷ []) (empty_message None)
      × (message_bytes (empty_message None) ≡ 0x42 ∷ 0x00 ∷ 0x00 ∷ 0x00 ∷ 0x00 ∷ [])
  -- an empty flags section, which says no flag
  pub p2 : Reads (0x42 ∷ 0x00 ∷ 0x00 ∷ 0x00 ∷ 0x00 ∷ 0x00 ∷ []) (empty_message (Some (flags_of 0)))
  -- flags 4, read and written
  pub p3 : Reads (0x42 ∷ 0x00 ∷ 0x00 ∷ 0x00 ∷ 0x00 ∷ 0x02 ∷ 0x02 ∷ 0x84 ∷ []) (empty_message (Some (flags_of 4)))
      × (message_bytes (empty_message (Some (flags_of 4))) ≡ 0x42 ∷ 0x00 ∷ 0x00 ∷ 0x00 ∷ 0x00 ∷ 0x02 ∷ 0x02 ∷ 0x84 ∷ [])
  pub p4 : Writes fresh (0x42 ∷ 0x00 ∷ 0x00 ∷ 0x01 ∷ 0x00 ∷ 0x00 ∷ 0x00 ∷ 0x02 ∷ 0x02 ∷ 0x84 ∷ [])
  -- read-only from the start, and switched on
  pub p5 : Writes fresh_read_only (0x42 ∷ 0x00 ∷ 0x00 ∷ 0x01 ∷ 0x00 ∷ 0x00 ∷ 0x00 ∷ 0x02 ∷ 0x02 ∷ 0x86 ∷ [])
      × Writes (set_read_only fresh true) (0x42 ∷ 0x00 ∷ 0x00 ∷ 0x01 ∷ 0x00 ∷ 0x00 ∷ 0x00 ∷ 0x02 ∷ 0x02 ∷ 0x86 ∷ [])
  pub p6 : (h : ℕ) → Words h 1 2 3
      → (probes_of 16 7 h ≡ 1 ∷ 3 ∷ 8 ∷ 0 ∷ 11 ∷ 9 ∷ 10 ∷ [])
      × (filter_bytes (filter_of default_bits default_probes (h ∷ [])) ≡ 0x01 ∷ 0x0a ∷ 0x07 ∷ 0x0b ∷ 0x0f ∷ [])
  pub p7 : (h : ℕ) → Words h 1 2 3
      → ((g : ℕ) → Words g 1 0 0 → contains (filter_of default_bits default_probes (h ∷ [])) g ≡ true)
      × ((g : ℕ) → Words g 2 0 0 → contains (filter_of default_bits default_probes (h ∷ [])) g ≡ false)
  -- wherever the bytes stand; the value is the filter's place
  pub p8 : (s : List ℕ) (at end : ℕ) → slice at end s ≡ 0x01 ∷ 0x00 ∷ 0x07 ∷ [] → RefusedWith (filter_at s at end) 5 at
  -- wherever the bytes stand, and for any two bytes x and y; the value is the filter's place
  pub p9 : (s : List ℕ) (at end x y : ℕ)
      → (slice at end s ≡ 0x01 ∷ 0x0a ∷ 0x41 ∷ x ∷ y ∷ [] → RefusedWith (filter_at s at end) 4 at)
      × (slice at end s ≡ 0x01 ∷ 0x0a ∷ 0x40 ∷ x ∷ y ∷ [] → ReadAs s at end (at + 5) 1 10 64 (x ∷ y ∷ []))
  -- the one probe is x
  pub p10 : (m h : ℕ) → probes_of m 0 h ≡ u32_at (hash_bytes h) 0 % m ∷ []
  -- the head is d
  pub p11 : (a b c d : ℕ) → Once (a ∷ b ∷ c ∷ d ∷ []) → (beyond (four a b c d) (b ∷ []) ≡ c ∷ d ∷ []) × (heads (four a b c d) ≡ d ∷ [])
  -- the order of the hashes to send; with no have they are the held needs alone
  pub p12 : (a b c d : ℕ) (v : Have) (vs : List Have) → Once (a ∷ b ∷ c ∷ d ∷ []) → OnlyMissed (v ∷ vs) a b c d
      → (to_send (four a b c d) (v ∷ vs) (c ∷ []) ≡ c ∷ b ∷ d ∷ [])
      × (to_send (four a b c d) (v ∷ vs) (d ∷ []) ≡ b ∷ d ∷ [])
      × (to_send (four a b c d) (v ∷ vs) (c ∷ c ∷ []) ≡ c ∷ c ∷ b ∷ d ∷ [])
      × (to_send (four a b c d) [] (c ∷ c ∷ []) ≡ c ∷ c ∷ [])
  pub met : Met
