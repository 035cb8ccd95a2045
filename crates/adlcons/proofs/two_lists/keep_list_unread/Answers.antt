use Rattle.std.proofs.Common.{◌≡◌, ◌++◌, ◌∷◌, [], ℕ, List, refl, subst}
use Rattle.work_terms.specs.Refusals.{Where}
use Rattle.console.specs.declared.lines.ListOfTwo.{ListOfTwo}
use Rattle.console.specs.Lines.{in_list, refusal_text}
use Rattle.console.specs.Printing.{Prints}
use Rattle.console.specs.PrintingLaws.{prints_more}
use Rattle.adlcons.proofs.two_lists.keep_list_unread.Goals as goal

-- a refusal of the same number and place is printed alike in a list
alike : (list : ListOfTwo) (number other : ℕ) (place there : Where) → number ≡ other → place ≡ there
    → refusal_text number place ++ in_list list ≡ refusal_text other there ++ in_list list
alike list number other place there one two = rw (one, two) refl

pub returns : goal.returns
returns g c =
    let contents = g.O.Console.contents in
    let failures = g.O.Console.failures in
    record {
      fault = c.args.fault;
      status_is = refl;
      printed = subst
          (λ (text : List ℕ). Prints contents failures c.args.out.now c.end_line.new.self (text ++ 10 ∷ []))
          (alike c.args.list _ _ _ _ c.refusal-refusal.ensures.number c.refusal-refusal.ensures.location)
          (prints_more contents failures (prints_more contents failures c.put_refusal.ensures c.put_in_list.ensures)
          c.end_line.ensures);
    }
