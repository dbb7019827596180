use Rattle.capture_tool.proofs.PcapReaderLemmas.{pcap_told, pcap_prefix}
use Rattle.capture_tool.proofs.pcap.show_pcap.Goals as goal

pub returns-in-Ok-clause-told : goal.returns-in-Ok-clause-told
returns-in-Ok-clause-told g c = λ _.
    pcap_told (g.S.Source.left c.args.src.now) (g.K.Sink.written c.args.out.now) (g.K.Sink.written c.read_pieces.new.out) c.args.port c.new.result c.in-Ok.seen c.pcap_status.result c.new.ensures c.pcap_status.ensures c.in-Ok.ensures.told

pub returns-in-Err-Read-clause-prefix : goal.returns-in-Err-Read-clause-prefix
returns-in-Err-Read-clause-prefix g c = λ _. pcap_prefix (g.S.Source.left c.args.src.now) (g.K.Sink.written c.args.out.now) (g.K.Sink.written c.read_pieces.new.out) c.args.port c.new.result c.new.ensures c.in-Err-Read.ensures.prefix

pub returns-in-Err-Write-clause-prefix : goal.returns-in-Err-Write-clause-prefix
returns-in-Err-Write-clause-prefix g c = λ _. pcap_prefix (g.S.Source.left c.args.src.now) (g.K.Sink.written c.args.out.now) (g.K.Sink.written c.read_pieces.new.out) c.args.port c.new.result c.new.ensures c.in-Err-Write.ensures.prefix

pub returns-in-Err-Memory-clause-prefix : goal.returns-in-Err-Memory-clause-prefix
returns-in-Err-Memory-clause-prefix g c = λ _. pcap_prefix (g.S.Source.left c.args.src.now) (g.K.Sink.written c.args.out.now) (g.K.Sink.written c.read_pieces.new.out) c.args.port c.new.result c.new.ensures c.in-Err-Memory.ensures.prefix
