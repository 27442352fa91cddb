-- `plan_put::put::put_field` meets its contract: nothing is put where the field has no bytes, else the part behind the place is filled. Assumes nothing.
use Rattle.plan_put.proofs.PartLaws.{no_bytes, field_fits, field_put}
use Rattle.plan_put.proofs.put.put_field.Goals as goal

pub returns-then-size-eq0 : goal.returns-then-size-eq0
returns-then-size-eq0 c = no_bytes _ _ c.if-size-eq0.true _ _

pub fill_marked-requires : goal.fill_marked-requires
fill_marked-requires c =
    let f = field_fits _ _ _ c.requires.2 _ _ (c.requires.3 c.if-size-eq0.false) in
    (c.requires.0, c.requires.1, f.0, f.1)

pub returns : goal.returns
returns c =
    field_put _ _ _ c.requires.2 c.if-size-eq0.false _ _ _ c.fill_marked.ensures
