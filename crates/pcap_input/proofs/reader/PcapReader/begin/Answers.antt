use Rattle.std.proofs.Common.{◌≤◌, length, ap, arith}
use Rattle.std.proofs.lemmas.List.{length-drop}
use Rattle.chdr_stream.specs.Window.{View}
use Rattle.pcap_input.specs.Reader.{Pcap}
use Rattle.pcap_input.proofs.reader.PcapReader.begin.Goals as goal

pub returns-in-Ok-Some-clause-fed : goal.returns-in-Ok-Some-clause-fed
returns-in-Ok-Some-clause-fed c =
    let whole : 24 ≤ length c.kept.result.now = rw c.in-Ok-Some.field-0-is at c.in-Ok-Some.ensures.whole in
    omega (
      arith,
      whole,
      length-drop 24 c.self.inside.window.kept,
      ap (λ (v : View). v.at) c.pass.ensures.moves,
      ap (λ (v : View). length v.kept) c.pass.ensures.moves,
      ap (λ (s : Pcap). s.at) c.self.view_is,
      ap (λ (s : Pcap). length s.kept) c.self.view_is,
      ap length c.kept.ensures,
    )
