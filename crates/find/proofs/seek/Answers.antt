use Rattle.std.proofs.Common.{length, sym, refl, ap, ◌∙◌, subst, arith}
use Rattle.std.proofs.lemmas.List.{length-take}
use Rattle.search.specs.Search.{FloorOf}
use Rattle.search.specs.Theorems.{problem}
use Rattle.search.proofs.Floors.{head_from}
use Rattle.find.proofs.Seeking.{wrote_found, wrote_spent, wrote_none}
use Rattle.find.proofs.seek.Goals as goal

pub walk-answer-requires : goal.walk-answer-requires
walk-answer-requires g c =
    let q = problem (g.B.Bank.meaning c.args.bank.now.bank.now) c.args.allowed.now in
    record {
      posed = c.requires.posed;
      floor = subst (λ z. FloorOf q z) (sym c.copy_from_slice.ensures.after) (head_from q c.args.floor.now c.requires.floor);
      edge = ap length c.copy_from_slice.ensures.after ∙ omega (arith, length-take (length c.args.allowed.now) c.args.floor.now, c.requires.floor.long);
      onward = c.copy_from_slice-2.ensures.after;
      root = c.split_at_mut-root.ensures.front_len;
      rest = c.split_at_mut-rest.ensures.front_len;
      child = c.split_at_mut-child.ensures.front_len;
      sets = omega (arith, length-take (length c.args.allowed.now) c.split_at_mut-child.result.1.now, c.split_at_mut-child.ensures.back_len, c.split_at_mut-rest.ensures.back_len, c.split_at_mut-root.ensures.back_len, c.requires.workspace);
    }

pub returns-in-Found : goal.returns-in-Found
returns-in-Found g c = wrote_found _ c.requires.posed _ c.requires.floor _ _ _ (length c.args.allowed.now) refl _ _ _ c.copy_from_slice.ensures.after c.walk-answer.ensures _ c.in-Found.is _ c.copy_from_slice-in-Found.ensures.after (omega (arith, c.copy_from_slice-in-Found.ensures.len, length-take (length c.args.allowed.now) c.args.timetable.now, c.requires.timetable))

pub returns-in-Spent : goal.returns-in-Spent
returns-in-Spent g c = wrote_spent _ c.requires.posed _ c.requires.floor _ _ _ (length c.args.allowed.now) refl _ _ _ c.copy_from_slice.ensures.after c.walk-answer.ensures _ c.in-Spent.is _ c.copy_from_slice-in-Spent.ensures.after (omega (arith, c.copy_from_slice-in-Spent.ensures.len, length-take (length c.args.allowed.now) c.args.timetable.now, c.requires.timetable))

pub returns-in-Nothing : goal.returns-in-Nothing
returns-in-Nothing g c = wrote_none _ c.requires.posed _ c.requires.floor _ _ _ (length c.args.allowed.now) refl _ _ _ c.copy_from_slice.ensures.after c.walk-answer.ensures _ c.in-Nothing.is
