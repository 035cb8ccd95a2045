use Rattle.wavwrite.proofs.FileReads.{length-header_of, reads_back, samples_stand}
use Rattle.wavwrite.proofs.RenderReads.{render_reads_back}
use Rattle.wavwrite.proofs.info_ref.SoundInfoRef.reads_back.Goals as goal

pub returns-clause-reads_back : goal.returns-clause-reads_back
returns-clause-reads_back c = λ name samples fits counted.
    reads_back name c.args.self.now samples (record { within = c.channels.ensures.within; fits = fits }) counted

pub returns-clause-data_stands : goal.returns-clause-data_stands
returns-clause-data_stands c =
    λ samples counted. samples_stand c.args.self.now samples c.channels.ensures.within.text_whole counted

pub returns-clause-rendered : goal.returns-clause-rendered
returns-clause-rendered c = λ range mix fits same.
    render_reads_back c.args.self.now range mix (record { within = c.channels.ensures.within; fits = fits }) same

pub returns-clause-head : goal.returns-clause-head
returns-clause-head c = length-header_of c.args.self.now c.channels.ensures.within.text_whole
