use Rattle.std.proofs.Common.{◌≤◌, length, ap, arith}
use Rattle.chdr_stream.specs.Stream.{Stream}
use Rattle.capture_tool.proofs.PcapReaderLemmas.{payload_listed}
use Rattle.capture_tool.proofs.pcap.list_payload.Goals as goal

pub returns-clause-put : goal.returns-clause-put
returns-clause-put c = (payload_listed c.args.payload c.over-decoder.result c.list_packets.new.decoder c.list_packets.new.packets c.args.page.now c.list_packets.new.page c.put_payload_fault.new.page c.in_ok-stands.stands c.last_fault-fault.result
    c.over-decoder.ensures c.in_ok-stands.ensures.lists c.in_ok-stands.ensures.at c.last_fault-fault.ensures c.in_ok-put_payload_fault.ensures).put

pub returns-clause-packets : goal.returns-clause-packets
returns-clause-packets c = (payload_listed c.args.payload c.over-decoder.result c.list_packets.new.decoder c.list_packets.new.packets c.args.page.now c.list_packets.new.page c.put_payload_fault.new.page c.in_ok-stands.stands c.last_fault-fault.result
    c.over-decoder.ensures c.in_ok-stands.ensures.lists c.in_ok-stands.ensures.at c.last_fault-fault.ensures c.in_ok-put_payload_fault.ensures).counts

pub returns-clause-fault : goal.returns-clause-fault
returns-clause-fault c = (payload_listed c.args.payload c.over-decoder.result c.list_packets.new.decoder c.list_packets.new.packets c.args.page.now c.list_packets.new.page c.put_payload_fault.new.page c.in_ok-stands.stands c.last_fault-fault.result
    c.over-decoder.ensures c.in_ok-stands.ensures.lists c.in_ok-stands.ensures.at c.last_fault-fault.ensures c.in_ok-put_payload_fault.ensures).tells
