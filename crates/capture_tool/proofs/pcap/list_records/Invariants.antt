use Rattle.std.proofs.Common.{◌≡◌, ◌+◌, length}
use Rattle.capture_tool.specs.PcapFollows.{IsCounted, PcapLists}
use Rattle.capture_tool.proofs.pcap.list_records.Given as goal

abbrev pub invariant-loop-item : goal.invariant-loop-item
invariant-loop-item l = record {
  lists : PcapLists l.initial.reader l.reader l.initial.totals l.totals l.initial.page l.page;
  within : IsCounted l.reader l.totals 0;
  place : l.reader.at + length l.reader.kept ≡ l.initial.reader.at + length l.initial.reader.kept;
}

abbrev pub decreases-loop-item : goal.decreases-loop-item
decreases-loop-item l = length l.reader.kept
