-- `pick::check::check_marked` meets its contract: one law for each answer (PickAnswers), whatever list the marks are of; they are those of some list, by which
-- each hash of an unbroken pick is a row's. Assumes nothing.
use mathlib.Core.Path.{sym, ◌∙◌}
use native.Mathlib.Omega.{arith}
use Rattle.rules.proofs.Hash.{length_hashes_at}
use Rattle.table.proofs.TableLaws.{length_rows_at}
use Rattle.table_graph.proofs.MarkLaws.{blank_or}
use Rattle.pick.proofs.GoesLaws.{own_list, none_picked}
use Rattle.pick.proofs.PickAnswers.{checked_broken, unbroken_held, checked_sizes, checked_sum, checked_some, checked_empty, checked_nothing}
use Rattle.pick.proofs.check.check_marked.Goals as goal

pub first_broken-place-requires : goal.first_broken-place-requires
first_broken-place-requires c = (
  c.requires.0,
  c.requires.1,
  c.requires.3,
  omega (arith, c.requires.4, c.mark_list.auto.marks),
  blank_or _ _ _ _ c.requires.5 c.mark_list.ensures,
)

pub returns-then-place-count : goal.returns-then-place-count
returns-then-place-count c =
    record {
      answer = λ list marks. checked_broken _ list _ _ _ _ _ _ (length_rows_at _ 0 _) (length_hashes_at _ 0 _) (c.first_broken-place.ensures list marks)
          c.if-place-count.true;
      marks = blank_or _ _ _ _ c.requires.5 c.mark_list.ensures;
    }

pub returns-then-row_sizes-n : goal.returns-then-row_sizes-n
returns-then-row_sizes-n c =
    record {
      answer = λ list marks. checked_sizes _ list _ _ _ _ _ _ (length_rows_at _ 0 _) (length_hashes_at _ 0 _) (c.first_broken-place.ensures list marks)
          c.if-place-count.false c.if-row_sizes-n.true;
      marks = blank_or _ _ _ _ c.requires.5 c.mark_list.ensures;
    }

pub sum_fits-requires : goal.sum_fits-requires
sum_fits-requires c = (
  c.requires.0,
  omega (arith, c.if-row_sizes-n.false),
  c.requires.1,
  unbroken_held _ _ c.args.row_sizes.now c.args.budget _ _ _ _ (length_rows_at _ 0 _) (length_hashes_at _ 0 _)
      (c.first_broken-place.ensures _ (own_list _ _ c.requires.0.rows _))
      c.if-place-count.false,
)

pub returns-then-not-sum_fits : goal.returns-then-not-sum_fits
returns-then-not-sum_fits c =
    record {
      answer = λ list marks. checked_sum _ list _ _ _ _ _ _ (length_rows_at _ 0 _) (length_hashes_at _ 0 _) (c.first_broken-place.ensures list marks)
          c.if-place-count.false c.if-row_sizes-n.false (sym c.sum_fits.ensures ∙ c.if-not-sum_fits.true);
      marks = blank_or _ _ _ _ c.requires.5 c.mark_list.ensures;
    }

pub returns-then-count-gt0 : goal.returns-then-count-gt0
returns-then-count-gt0 c =
    record {
      answer = λ list marks. checked_some _ list _ _ _ _ _ _ (length_rows_at _ 0 _) (length_hashes_at _ 0 _) (c.first_broken-place.ensures list marks)
          c.if-place-count.false c.if-row_sizes-n.false (sym c.sum_fits.ensures ∙ c.if-not-sum_fits.false) c.if-count-gt0.true;
      marks = blank_or _ _ _ _ c.requires.5 c.mark_list.ensures;
    }

pub some_goes-requires : goal.some_goes-requires
some_goes-requires c = (
  c.requires.0.rows,
  omega (arith, c.if-row_sizes-n.false),
  c.requires.3,
  omega (arith, c.requires.4, c.mark_list.auto.marks),
  none_picked _ _ _ _ _ c.if-count-gt0.false (blank_or _ _ _ _ c.requires.5 c.mark_list.ensures),
)

pub returns-then-some_goes : goal.returns-then-some_goes
returns-then-some_goes c =
    record {
      answer = λ list marks. checked_empty _ list _ _ _ _ _ _ (length_rows_at _ 0 _) (length_hashes_at _ 0 _) (c.first_broken-place.ensures list marks)
          c.if-place-count.false c.if-row_sizes-n.false (sym c.sum_fits.ensures ∙ c.if-not-sum_fits.false) c.if-count-gt0.false
          (sym c.if-some_goes.true ∙ c.some_goes.ensures list marks);
      marks = blank_or _ _ _ _ c.requires.5 c.mark_list.ensures;
    }

pub returns : goal.returns
returns c =
    record {
      answer = λ list marks. checked_nothing _ list _ _ _ _ _ _ (length_rows_at _ 0 _) (length_hashes_at _ 0 _) (c.first_broken-place.ensures list marks)
          c.if-place-count.false c.if-row_sizes-n.false (sym c.sum_fits.ensures ∙ c.if-not-sum_fits.false) c.if-count-gt0.false
          (sym c.if-some_goes.false ∙ c.some_goes.ensures list marks);
      marks = blank_or _ _ _ _ c.requires.5 c.mark_list.ensures;
    }
