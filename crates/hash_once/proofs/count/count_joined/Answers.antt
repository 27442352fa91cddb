-- `hash_once::count::count_joined` meets its contract: the order that is made is what is counted along. Assumes nothing.
use borrow.Author.Rules.{rules}
use Rattle.hash_once.proofs.count.count_joined.Goals as goal

pub join_along-requires : goal.join_along-requires
join_along-requires c =
    (record { inside = c.requires.0; entries = search rules; are = c.build_by_rows.ensures }, c.requires.1, c.requires.2, c.requires.3, c.requires.4)
