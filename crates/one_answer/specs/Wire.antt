-- Calls that read and write items, and those of filters. 01, How tightly the statements bind.
use Rattle.one_answer.specs.Binds.{Binds}
use Rattle.rules.specs.contracts.passed.passed_hashes as of-passed-hashes
use Rattle.rules.proofs.passed.passed_hashes.Reads as reads-passed-hashes
use Rattle.rules.specs.contracts.passed.passed_up_to as of-passed-up-to
use Rattle.rules.proofs.passed.passed_up_to.Reads as reads-passed-up-to
use Rattle.rules.specs.contracts.refusal.Refusal.number as of_number
use Rattle.rules.proofs.refusal.Refusal.number.Reads as reads_number
use Rattle.rules.specs.contracts.refusal.Refusal.value as of-value
use Rattle.rules.proofs.refusal.Refusal.value.Reads as reads-value
use Rattle.rules.specs.contracts.sizes.limits as of-limits
use Rattle.rules.proofs.sizes.limits.Reads as reads-limits
use Rattle.leb128.specs.contracts.leb128.within as of-within
use Rattle.leb128.proofs.leb128.within.Reads as reads-within
use Rattle.leb128.specs.contracts.leb128.leb128_u64 as of-leb128-u64
use Rattle.leb128.proofs.leb128.leb128_u64.Reads as reads-leb128-u64
use Rattle.leb128.specs.contracts.leb128.leb128_u32 as of-leb128-u32
use Rattle.leb128.proofs.leb128.leb128_u32.Reads as reads-leb128-u32
use Rattle.leb128.specs.contracts.leb128.unsigned_size as of-unsigned-size
use Rattle.leb128.proofs.leb128.unsigned_size.Reads as reads-unsigned-size
use Rattle.leb128.specs.contracts.leb128.write_unsigned as of-write-unsigned
use Rattle.leb128.proofs.leb128.write_unsigned.Reads as reads-write-unsigned
use Rattle.wire.specs.contracts.encode.encode_bytes as of-encode-bytes
use Rattle.wire.proofs.encode.encode_bytes.Reads as reads-encode-bytes
use Rattle.wire.specs.contracts.encode.encode_hashes as of-encode-hashes
use Rattle.wire.proofs.encode.encode_hashes.Reads as reads-encode-hashes
use Rattle.wire.specs.contracts.parse.left as of_left
use Rattle.wire.proofs.parse.left.Reads as reads_left
use Rattle.wire.specs.contracts.parse.length_prefix as of-length-prefix
use Rattle.wire.proofs.parse.length_prefix.Reads as reads-length-prefix
use Rattle.wire.specs.contracts.parse.length_prefixed_bytes as of-length-prefixed-bytes
use Rattle.wire.proofs.parse.length_prefixed_bytes.Reads as reads-length-prefixed-bytes
use Rattle.wire.specs.contracts.parse.length_prefixed_hashes as of-length-prefixed-hashes
use Rattle.wire.proofs.parse.length_prefixed_hashes.Reads as reads-length-prefixed-hashes
use Rattle.bloom.specs.contracts.have.inside as of-inside
use Rattle.bloom.proofs.have.inside.Reads as reads-inside
use Rattle.bloom.specs.contracts.have.passed_good as of-passed-good
use Rattle.bloom.proofs.have.passed_good.Reads as reads-passed-good
use Rattle.bloom.specs.contracts.have.passed_few as of-passed-few
use Rattle.bloom.proofs.have.passed_few.Reads as reads-passed-few
use Rattle.bloom.specs.contracts.parse.parse as of-parse
use Rattle.bloom.proofs.parse.parse.Reads as reads-parse
use Rattle.bloom.specs.contracts.parse.parse_counted as of-parse-counted
use Rattle.bloom.proofs.parse.parse_counted.Reads as reads-parse-counted
use Rattle.bloom.specs.contracts.rule.filter_rules as of-filter-rules
use Rattle.bloom.proofs.rule.filter_rules.Reads as reads-filter-rules
use Rattle.bloom.specs.contracts.rule.build_rules as of-build-rules
use Rattle.bloom.proofs.rule.build_rules.Reads as reads-build-rules
use Rattle.bloom.specs.contracts.setting.pair_good as of-pair-good
use Rattle.bloom.proofs.setting.pair_good.Reads as reads-pair-good
use Rattle.bloom.specs.contracts.to_bytes.filter_size as of-filter-size
use Rattle.bloom.proofs.to_bytes.filter_size.Reads as reads-filter-size
use Rattle.bloom.specs.contracts.to_bytes.to_bytes as of-to-bytes
use Rattle.bloom.proofs.to_bytes.to_bytes.Reads as reads-to-bytes
use Rattle.bloom_probe.specs.contracts.build.clear as of-clear
use Rattle.bloom_probe.proofs.build.clear.Reads as reads-clear
use Rattle.bloom_probe.specs.contracts.build.from_hashes as of-from-hashes
use Rattle.bloom_probe.proofs.build.from_hashes.Reads as reads-from-hashes
use Rattle.bloom_probe.specs.contracts.contains.filters_contain as of-filters-contain
use Rattle.bloom_probe.proofs.contains.filters_contain.Reads as reads-filters-contain
use Rattle.bloom_probe.specs.contracts.probes.count as of-count
use Rattle.bloom_probe.proofs.probes.count.Reads as reads-count

-- Rules, numbers, strings and lists, and filters.
pub record WireBind : Type 0 where
  -- the crate rules
  pub passed_hashes : Binds of-passed-hashes.ended reads-passed-hashes.Post
  pub passed_up_to : Binds of-passed-up-to.ended reads-passed-up-to.Post
  pub number : Binds of_number.ended reads_number.Post
  pub value : Binds of-value.ended reads-value.Post
  pub limits : Binds of-limits.ended reads-limits.Post
  -- the crate leb128
  pub within : Binds of-within.ended reads-within.Post
  pub leb128_u64 : Binds of-leb128-u64.ended reads-leb128-u64.Post
  pub leb128_u32 : Binds of-leb128-u32.ended reads-leb128-u32.Post
  pub unsigned_size : Binds of-unsigned-size.ended reads-unsigned-size.Post
  pub write_unsigned : Binds of-write-unsigned.ended reads-write-unsigned.Post
  -- the crate wire
  pub encode_bytes : Binds of-encode-bytes.ended reads-encode-bytes.Post
  pub encode_hashes : Binds of-encode-hashes.ended reads-encode-hashes.Post
  pub left : Binds of_left.ended reads_left.Post
  pub length_prefix : Binds of-length-prefix.ended reads-length-prefix.Post
  pub length_prefixed_bytes : Binds of-length-prefixed-bytes.ended reads-length-prefixed-bytes.Post
  pub length_prefixed_hashes : Binds of-length-prefixed-hashes.ended reads-length-prefixed-hashes.Post
  -- the crate bloom
  pub inside : Binds of-inside.ended reads-inside.Post
  pub passed_good : Binds of-passed-good.ended reads-passed-good.Post
  pub passed_few : Binds of-passed-few.ended reads-passed-few.Post
  pub parse : Binds of-parse.ended reads-parse.Post
  pub parse_counted : Binds of-parse-counted.ended reads-parse-counted.Post
  pub filter_rules : Binds of-filter-rules.ended reads-filter-rules.Post
  pub build_rules : Binds of-build-rules.ended reads-build-rules.Post
  pub pair_good : Binds of-pair-good.ended reads-pair-good.Post
  pub filter_size : Binds of-filter-size.ended reads-filter-size.Post
  pub to_bytes : Binds of-to-bytes.ended reads-to-bytes.Post
  -- the crate bloom_probe
  pub clear : Binds of-clear.ended reads-clear.Post
  pub from_hashes : Binds of-from-hashes.ended reads-from-hashes.Post
  pub filters_contain : Binds of-filters-contain.ended reads-filters-contain.Post
  pub count : Binds of-count.ended reads-count.Post
