-- A call between two folders is answered by what was printed, whatever name the output has by then.
use Rattle.std.proofs.Common.{◌≡◌, ℕ, List}
use Rattle.std.specs.Prelude.{Result}
use Rattle.console.specs.declared.console.Console as console
use Rattle.shelf.specs.Folder.{OutputFolder, SourceFolder, folder_named}
use Rattle.shelf.specs.declared.Overwrite.{Overwrite}
use Rattle.consolidate.specs.declared.Fault.{Fault}
use Rattle.answers.specs.Answers.{IsAnswered}
use Rattle.adlcons.specs.Openings.{WorksInFolders}

pub works_by : {X O : Type 0} (replaced : Overwrite)
    (call : List ℕ → SourceFolder → SourceFolder → OutputFolder → OutputFolder → Result X Fault → Type 0)
    (lines : X → List ℕ) (out : console.Ghosts O) (media target list : List ℕ) (before after : SourceFolder)
    (empty full : OutputFolder) (old last new : O) (status : ℕ)
    → before.folder ≡ folder_named media → empty.folder ≡ folder_named target → empty.overwrite ≡ replaced → last ≡ new
    → IsAnswered (call list before after empty full) lines out old new status
    → WorksInFolders replaced call lines out media target old last status
works_by replaced call lines out media target list before after empty full old last new status from into careful same
    is = record {
      list = list;
      before = before;
      after = after;
      empty = empty;
      full = full;
      folder = from;
      output = into;
      careful = careful;
      answered = record {
        outcome = is.outcome;
        called = is.called;
        status_is = is.status_is;
        printed = rw same is.printed;
      };
    }
