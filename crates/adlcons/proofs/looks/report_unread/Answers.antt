use Rattle.std.proofs.Common.{◌≡◌, ◌∙◌, ℕ, List, ap, string_bytes, subst, sym}
use Rattle.work_terms.specs.Refusals.{File, Where}
use Rattle.console.specs.declared.console.Console as console
use Rattle.console.specs.Places.{where_of}
use Rattle.checkreport.specs.Reported.{PrintsUnread}
use Rattle.adlcons.specs.Openings.{IsReportUnread}
use Rattle.places.specs.Opening.{refusal_of_read}
use Rattle.places.specs.declared.list_file.ReadFault.{ReadFault}
use Rattle.places.specs.declared.list_file.ReadFault.TheVariants.{Memory}
use Rattle.adlcons.proofs.looks.report_unread.Goals as goal

-- by the number and the place that were printed
unread_by : {O : Type 0} (out : console.Ghosts O) (list : List ℕ) (old new : O) (status : ℕ) (fault : ReadFault)
    (number : ℕ) (place : Where)
    → number ≡ (refusal_of_read fault list).number → place ≡ (refusal_of_read fault list).location
    → status ≡ 1 → PrintsUnread out old new number place → IsReportUnread out list old new status
unread_by out list old new status fault number place number_is place_is one printed = record {
  fault = fault;
  status_is = one;
  unread = subst (λ (n : ℕ). PrintsUnread out old new n (refusal_of_read fault list).location) number_is
      (subst (λ (p : Where). PrintsUnread out old new number p) place_is printed);
}

pub returns-in_default : goal.returns-in_default
returns-in_default g c = record {
  fault = Memory;
  status_is = c.put_no_memory.ensures.status;
  unread = c.put_no_memory.ensures.unread;
}

pub returns-in-Ok : goal.returns-in-Ok
returns-in-Ok g c =
    unread_by g.O.Console c.args.path.now c.args.out.now c.put_unread.new.out c.put_unread.result c.args.fault
    c.refusal-refusal.result.number (File (string_bytes c.in-Ok.path)) c.refusal-refusal.ensures.number
    (ap File c.in-Ok.ensures.ok ∙ ap where_of (sym c.in-File.is) ∙ c.refusal-refusal.ensures.location)
    c.put_unread.ensures.status c.put_unread.ensures.unread

pub returns-in-Err : goal.returns-in-Err
returns-in-Err g c = record {
  fault = Memory;
  status_is = c.put_no_memory-in-Err.ensures.status;
  unread = c.put_no_memory-in-Err.ensures.unread;
}
