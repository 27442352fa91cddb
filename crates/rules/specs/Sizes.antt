-- 01, Sizes, and 02, M-106. One record names every limit; definitions read its fields, and no numeral of a limit stands anywhere else, but for the
-- two of the rows of before M-106, which are in Widths of the crate table.
use Rattle.std.specs.Prelude.{ℕ, List, [], ◌∷◌}

-- The limits by name.
pub record Sizes : Type 0 where
  -- bytes of a hash
  pub hash : ℕ
  -- bytes of a message
  pub message : ℕ
  -- rows of a change table
  pub rows : ℕ
  -- rows of a waiting table
  pub waiting_rows : ℕ
  -- dependencies of a change
  pub dependencies : ℕ
  -- hashes of a list
  pub hashes : ℕ
  -- hashes that a session remembers as sent
  pub sent_hashes : ℕ
  -- haves of a message or a session
  pub haves : ℕ
  -- chunks of a message
  pub chunks : ℕ
  -- bytes of a filter's bit field
  pub field : ℕ
  -- probes of a filter that has entries
  pub probes : ℕ
  -- hashes to send at once
  pub hashes_to_send : ℕ

-- The numbers that 01 gives, and those that M-106 gives in their place.
abbrev pub sizes : Sizes
sizes =
    record {
      hash = 32;
      message = 4194304;
      rows = 8192;
      waiting_rows = 1024;
      dependencies = 111;
      hashes = 8192;
      sent_hashes = 8192;
      haves = 16;
      chunks = 16384;
      field = 32768;
      probes = 64;
      hashes_to_send = 16384;
    }

-- Every limit in the record's order, as a host is told them.
abbrev pub limits_of : Sizes → List ℕ
limits_of z =
    z.hash
    ∷ z.message
    ∷ z.rows
    ∷ z.waiting_rows
    ∷ z.dependencies
    ∷ z.hashes
    ∷ z.sent_hashes
    ∷ z.haves
    ∷ z.chunks
    ∷ z.field
    ∷ z.probes
    ∷ z.hashes_to_send
    ∷ []
