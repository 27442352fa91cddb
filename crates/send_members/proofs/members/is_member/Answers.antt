-- `send_members::members::is_member` meets its contract: its tests are the equation's, the cheaper first. Assumes nothing.
use mathlib.Core.Bool.{Bool, true, false, not, ◌&&◌, ◌||◌}
use mathlib.Core.Path.{◌≡◌, sym, ◌∙◌}
use Rattle.send_members.proofs.members.is_member.Goals as goal

depends : (synced some other : Bool) → synced ≡ false → some ≡ true → true ≡ (not synced && (some || other))
depends synced some other e f = rw (e, f)

filters-decide : (synced some filter r : Bool) → synced ≡ false → some ≡ false → r ≡ filter → not r ≡ (not synced && (some || not filter))
filters-decide synced some filter r e f g = rw (e, f, g)

pub returns-then-some_marked : goal.returns-then-some_marked
returns-then-some_marked c = depends _ _ _ c.if-synced.false (sym c.some_marked.ensures ∙ c.if-some_marked.true)

pub returns : goal.returns
returns c =
    filters-decide _ _ _ _ c.if-synced.false (sym c.some_marked.ensures ∙ c.if-some_marked.false) c.contains_hash.ensures
