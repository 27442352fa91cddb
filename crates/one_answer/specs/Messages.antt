-- Calls that read and write messages. 01, How tightly the statements bind.
use Rattle.one_answer.specs.Binds.{Binds}
use Rattle.message.specs.contracts.flags.MessageFlags.new as of-new
use Rattle.message.proofs.flags.MessageFlags.new.Reads as reads-new
use Rattle.message.specs.contracts.flags.MessageFlags.contains as of-contains
use Rattle.message.proofs.flags.MessageFlags.contains.Reads as reads-contains
use Rattle.message.specs.contracts.flags.MessageFlags.wants_reset as of-wants-reset
use Rattle.message.proofs.flags.MessageFlags.wants_reset.Reads as reads-wants-reset
use Rattle.message.specs.contracts.flags.MessageFlags.read_only as of-read-only
use Rattle.message.proofs.flags.MessageFlags.read_only.Reads as reads-read-only
use Rattle.message.specs.contracts.flags.MessageFlags.supports_reset as of-supports-reset
use Rattle.message.proofs.flags.MessageFlags.supports_reset.Reads as reads-supports-reset
use Rattle.message.specs.contracts.flags.MessageFlags.set as of-set
use Rattle.message.proofs.flags.MessageFlags.set.Reads as reads-set
use Rattle.message.specs.contracts.version.MessageVersion.encode as of-version-encode
use Rattle.message.proofs.version.MessageVersion.encode.Reads as reads-version-encode
use Rattle.message_items.specs.contracts.chunks.parse_chunks as of-parse-chunks
use Rattle.message_items.proofs.chunks.parse_chunks.Reads as reads-parse-chunks
use Rattle.message_items.specs.contracts.haves.parse_have as of-parse-have
use Rattle.message_items.proofs.haves.parse_have.Reads as reads-parse-have
use Rattle.message_items.specs.contracts.haves.parse_haves as of-parse-haves
use Rattle.message_items.proofs.haves.parse_haves.Reads as reads-parse-haves
use Rattle.message_read.specs.contracts.decode.decode as of-decode
use Rattle.message_read.proofs.decode.decode.Reads as reads-decode
use Rattle.message_read.specs.contracts.opening.parse_opening as of-parse-opening
use Rattle.message_read.proofs.opening.parse_opening.Reads as reads-parse-opening
use Rattle.message_read.specs.contracts.parse.parse_section as of-parse-section
use Rattle.message_read.proofs.parse.parse_section.Reads as reads-parse-section
use Rattle.message_read.specs.contracts.parse.parse as of-parse
use Rattle.message_read.proofs.parse.parse.Reads as reads-parse
use Rattle.message_peek.specs.contracts.peek.peek_heads as of-peek-heads
use Rattle.message_peek.proofs.peek.peek_heads.Reads as reads-peek-heads
use Rattle.message_size.specs.contracts.size.message_size as of-message-size
use Rattle.message_size.proofs.size.message_size.Reads as reads-message-size
use Rattle.message_write.specs.contracts.encode.encode as of-encode
use Rattle.message_write.proofs.encode.encode.Reads as reads-encode
use Rattle.message_reader.specs.contracts.reader.hashes_at as of-reader-hashes-at
use Rattle.message_reader.proofs.reader.hashes_at.Reads as reads-reader-hashes-at
use Rattle.message_reader.specs.contracts.first.first_list as of-first-list
use Rattle.message_reader.proofs.first.first_list.Reads as reads-first-list

-- Messages: their flags and versions, read, peeked at, sized and written.
pub record MessagesBind : Type 0 where
  -- the crate message
  pub new : Binds of-new.ended reads-new.Post
  pub contains : Binds of-contains.ended reads-contains.Post
  pub wants_reset : Binds of-wants-reset.ended reads-wants-reset.Post
  pub read_only : Binds of-read-only.ended reads-read-only.Post
  pub supports_reset : Binds of-supports-reset.ended reads-supports-reset.Post
  pub set : Binds of-set.ended reads-set.Post
  pub version_encode : Binds of-version-encode.ended reads-version-encode.Post
  -- the crate message_items
  pub parse_chunks : Binds of-parse-chunks.ended reads-parse-chunks.Post
  pub parse_have : Binds of-parse-have.ended reads-parse-have.Post
  pub parse_haves : Binds of-parse-haves.ended reads-parse-haves.Post
  -- the crate message_read
  pub decode : Binds of-decode.ended reads-decode.Post
  pub parse_opening : Binds of-parse-opening.ended reads-parse-opening.Post
  pub parse_section : Binds of-parse-section.ended reads-parse-section.Post
  pub parse : Binds of-parse.ended reads-parse.Post
  -- the crate message_peek
  pub peek_heads : Binds of-peek-heads.ended reads-peek-heads.Post
  -- the crate message_size
  pub message_size : Binds of-message-size.ended reads-message-size.Post
  -- the crate message_write
  pub encode : Binds of-encode.ended reads-encode.Post
  -- the crate message_reader
  pub reader_hashes_at : Binds of-reader-hashes-at.ended reads-reader-hashes-at.Post
  pub first_list : Binds of-first-list.ended reads-first-list.Post
