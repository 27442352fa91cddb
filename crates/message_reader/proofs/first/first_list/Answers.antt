-- `message_reader::first::first_list` meets its contract: the list that a reader gives which was moved to 1 from one over the message. Assumes nothing.
use Rattle.std.proofs.Common.{◌≡◌, ℕ, List, length, Bor, ap, ◌∙◌}
use Rattle.wire.specs.Item.{hash_list_at}
use Rattle.message_reader.specs.First.{first_list}
use Rattle.message_reader.proofs.first.first_list.Goals as goal

-- the list that a reader m' gives which was moved to 1 from one over s
reached : (s m m' : Bor (List ℕ)) (n : ℕ) → m ≡ s → m' ≡ m → n ≡ 1 → hash_list_at m'.now n (length m'.now) ≡ first_list s.now
unfolding first_list
reached s m m' n a b c = ap (λ (x : Bor (List ℕ)). hash_list_at x.now n (length x.now)) (b ∙ a) ∙ ap (λ (k : ℕ). hash_list_at s.now k (length s.now)) c

pub returns : goal.returns
returns c =
    c.hashes.ensures
    ∙ reached c.args.message c.new.result.message c.moved.result.message c.moved.result.at c.new.ensures.0 c.moved.ensures.0 c.moved.ensures.1
