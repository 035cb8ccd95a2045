use Rattle.std.proofs.Common.{◌∙◌, refl, rules}
use Rattle.std.proofs.lemmas.Bool.{false≢true}
use Rattle.markfile.specs.Format.{marks_name}
use Rattle.rendering.specs.MakerLaws.{started_as}
use Rattle.consolidate.proofs.Stores.{untouched}
use Rattle.consolidate.proofs.marks.open_marks.Goals as goal

pub returns-in-Anew : goal.returns-in-Anew
returns-in-Anew g c = rw c.in-Anew.is (record {
  back = record { planned = refl; sounds = refl; run = refl; whole = c.requires.whole; jobs = c.requires.jobs };
  untouched = untouched (g.met.B.Bench.only_now c.args.bench.now);
  only_reads = search rules;
  found_as = λ right. refl;
  unchanged = λ none. refl;
  unstarted = λ right sources none is x at. started_as (x marks_name) ∙ none x at;
  running = λ right sources left done agrees. tt;
  filled = λ right sources left done agrees. tt;
  cut = λ right. tt;
  again = λ failed. absurd (false≢true failed);
})

pub returns-in-Again : goal.returns-in-Again
returns-in-Again g c = let opened = c.open.ensures in rw c.in-Again.is (record {
  back = opened.reopened;
  untouched = opened.untouched;
  only_reads = opened.only_reads;
  found_as = opened.found;
  unchanged = opened.unchanged;
  unstarted = λ right sources start. opened.unstarted right sources;
  running = opened.running;
  filled = opened.filled;
  cut = opened.cut;
  again = λ failed. refl;
})
