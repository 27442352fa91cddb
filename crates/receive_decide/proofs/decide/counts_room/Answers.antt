-- `receive_decide::decide::counts_room` meets its contract: one way out for each list. Assumes nothing.
use Rattle.receive_decide.proofs.DecideLaws.{shared_short, last_short, heads_short, need_short, haves_short, bytes_short, enough}
use Rattle.receive_decide.proofs.decide.counts_room.Goals as goal

pub returns-then-r-shared : goal.returns-then-r-shared
returns-then-r-shared c = shared_short _ _ c.if-r-shared.true

pub returns-then-r-last_sent : goal.returns-then-r-last_sent
returns-then-r-last_sent c =
    last_short _ _ c.if-r-shared.false c.if-r-last_sent.true

pub returns-then-r-heads : goal.returns-then-r-heads
returns-then-r-heads c =
    heads_short _ _ c.if-r-shared.false c.if-r-last_sent.false c.if-r-heads.true

pub returns-then-r-need : goal.returns-then-r-need
returns-then-r-need c =
    need_short _ _ c.if-r-shared.false c.if-r-last_sent.false c.if-r-heads.false c.if-r-need.true

pub returns-then-r-haves : goal.returns-then-r-haves
returns-then-r-haves c =
    haves_short _ _ c.if-r-shared.false c.if-r-last_sent.false c.if-r-heads.false c.if-r-need.false c.if-r-haves.true

pub returns-then-r-d : goal.returns-then-r-d
returns-then-r-d c =
    bytes_short _ _ c.if-r-shared.false c.if-r-last_sent.false c.if-r-heads.false c.if-r-need.false c.if-r-haves.false c.if-r-d.true

pub returns : goal.returns
returns c =
    enough _ _ c.if-r-shared.false c.if-r-last_sent.false c.if-r-heads.false c.if-r-need.false c.if-r-haves.false c.if-r-d.false
