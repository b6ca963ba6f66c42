use Rattle.std.proofs.Common.{sym, ap, ◌∙◌}
use Rattle.records.specs.Reading.{record_in}
use Rattle.records.proofs.RoundTrip.{round_trip, read_image}
use Rattle.records.proofs.reading.read.Goals as goal

pub returns : goal.returns
returns c =
    let e = c.record_in.ensures in
    record {
      value = e;
      written = λ p h s. e ∙ ap (λ slot. record_in slot c.args.before) s ∙ round_trip p c.args.before h;
      only = λ p s. read_image c.args.slot.now c.args.before p c.told-slot c.fits-slot (sym e ∙ s);
    }
