-- The text is written piece by piece, and its rest is the reader's.
use Rattle.std.proofs.Common.{◌≤◌, ◌≡◌, [], length, take, arith, ap, Ok}
use Rattle.std.proofs.lemmas.List.{length-take}
use Rattle.rf_outside.proofs.PieceLemmas.{came_none, came_more, ended_told, ended_prefix, settled_told, settled_prefix, long_told, long_prefix, kept_prefix, piece_prefix, silent_none, silent_read, silent_end, on_err, err_then, ok_then}
use Rattle.rf_outside.proofs.pieces.read_pieces.Goals as goal

pub returns-then-count-eq0-clause-told : goal.returns-then-count-eq0-clause-told
returns-then-count-eq0-clause-told g c =
    ok_then c.end_reader.result _ _ (λ found t. ended_told (g.R.PieceReader.text c.args.reader) (g.R.PieceReader.text c.loop-room.reader) (g.R.PieceReader.seen c.args.reader) (g.R.PieceReader.seen c.loop-room.reader)
    (g.S.Source.left c.args.src.now) (g.S.Source.left c.loop-room.src) (g.S.Source.left c.next_piece.new.src) (g.K.Sink.written c.args.out.now) (g.K.Sink.written c.loop-room.out) (g.K.Sink.written c.end_reader.new.out) c.in_ok-count.count c.next_piece.new.piece found
    c.loop-room.invariant.came c.in_ok-count.ensures.bytes c.if-count-eq0.true (c.in_ok-count.ensures.end c.if-count-eq0.true) t) c.end_reader.ensures.told

pub returns-then-count-eq0-clause-prefix : goal.returns-then-count-eq0-clause-prefix
returns-then-count-eq0-clause-prefix g c =
    err_then c.end_reader.result _ _ (λ p. ended_prefix (g.R.PieceReader.text c.args.reader) (g.R.PieceReader.text c.loop-room.reader) (g.R.PieceReader.seen c.args.reader) (g.R.PieceReader.seen c.loop-room.reader)
    (g.S.Source.left c.args.src.now) (g.S.Source.left c.loop-room.src) (g.S.Source.left c.next_piece.new.src) (g.K.Sink.written c.args.out.now) (g.K.Sink.written c.loop-room.out) (g.K.Sink.written c.end_reader.new.out) c.in_ok-count.count c.next_piece.new.piece
    c.loop-room.invariant.came c.in_ok-count.ensures.bytes c.if-count-eq0.true (c.in_ok-count.ensures.end c.if-count-eq0.true) p) c.end_reader.ensures.prefix

pub returns-then-more-eq0-clause-told : goal.returns-then-more-eq0-clause-told
returns-then-more-eq0-clause-told g c =
    ok_then c.end_reader-then-more-eq0.result _ _ (λ found t. ended_told (g.R.PieceReader.text c.args.reader) (g.R.PieceReader.text c.loop-room.reader) (g.R.PieceReader.seen c.args.reader) (g.R.PieceReader.seen c.loop-room.reader)
    (g.S.Source.left c.args.src.now) (g.S.Source.left c.loop-room.src) (g.S.Source.left c.next_piece-2.new.src) (g.K.Sink.written c.args.out.now) (g.K.Sink.written c.loop-room.out) (g.K.Sink.written c.end_reader-then-more-eq0.new.out) c.in_ok-more.more c.next_piece-2.new.piece found
    c.loop-room.invariant.came c.in_ok-more.ensures.bytes c.if-more-eq0.true (c.in_ok-more.ensures.end c.if-more-eq0.true) t) c.end_reader-then-more-eq0.ensures.told

pub returns-then-more-eq0-clause-prefix : goal.returns-then-more-eq0-clause-prefix
returns-then-more-eq0-clause-prefix g c =
    err_then c.end_reader-then-more-eq0.result _ _ (λ p. ended_prefix (g.R.PieceReader.text c.args.reader) (g.R.PieceReader.text c.loop-room.reader) (g.R.PieceReader.seen c.args.reader) (g.R.PieceReader.seen c.loop-room.reader)
    (g.S.Source.left c.args.src.now) (g.S.Source.left c.loop-room.src) (g.S.Source.left c.next_piece-2.new.src) (g.K.Sink.written c.args.out.now) (g.K.Sink.written c.loop-room.out) (g.K.Sink.written c.end_reader-then-more-eq0.new.out) c.in_ok-more.more c.next_piece-2.new.piece
    c.loop-room.invariant.came c.in_ok-more.ensures.bytes c.if-more-eq0.true (c.in_ok-more.ensures.end c.if-more-eq0.true) p) c.end_reader-then-more-eq0.ensures.prefix

pub returns-in_err-count-clause-prefix : goal.returns-in_err-count-clause-prefix
returns-in_err-count-clause-prefix g c =
    on_err c.from_residual.result _ (kept_prefix (g.R.PieceReader.text c.args.reader) (g.R.PieceReader.text c.loop-room.reader) (g.R.PieceReader.seen c.args.reader) (g.R.PieceReader.seen c.loop-room.reader)
    (g.S.Source.left c.args.src.now) (g.S.Source.left c.loop-room.src) (g.K.Sink.written c.args.out.now) (g.K.Sink.written c.loop-room.out) c.loop-room.invariant.came)

pub returns-in_err-progress-clause-prefix : goal.returns-in_err-progress-clause-prefix
returns-in_err-progress-clause-prefix g c =
    on_err c.from_residual-in_err-progress.result _ (kept_prefix (g.R.PieceReader.text c.args.reader) (g.R.PieceReader.text c.loop-room.reader) (g.R.PieceReader.seen c.args.reader) (g.R.PieceReader.seen c.loop-room.reader)
    (g.S.Source.left c.args.src.now) (g.S.Source.left c.loop-room.src) (g.K.Sink.written c.args.out.now) (g.K.Sink.written c.loop-room.out) c.loop-room.invariant.came)

pub returns-in_err-more-clause-prefix : goal.returns-in_err-more-clause-prefix
returns-in_err-more-clause-prefix g c =
    on_err c.from_residual-in_err-more.result _ (kept_prefix (g.R.PieceReader.text c.args.reader) (g.R.PieceReader.text c.loop-room.reader) (g.R.PieceReader.seen c.args.reader) (g.R.PieceReader.seen c.loop-room.reader)
    (g.S.Source.left c.args.src.now) (g.S.Source.left c.loop-room.src) (g.K.Sink.written c.args.out.now) (g.K.Sink.written c.loop-room.out) c.loop-room.invariant.came)

pub returns-in_err-write_text-clause-prefix : goal.returns-in_err-write_text-clause-prefix
returns-in_err-write_text-clause-prefix g c =
    on_err c.from_residual-in_err-write_text.result _ (piece_prefix (g.R.PieceReader.text c.args.reader) (g.R.PieceReader.text c.loop-room.reader) (g.R.PieceReader.text c.read.new.self) (g.R.PieceReader.seen c.args.reader) (g.R.PieceReader.seen c.loop-room.reader) (g.R.PieceReader.seen c.read.new.self)
    (g.S.Source.left c.args.src.now) (g.S.Source.left c.loop-room.src) (g.S.Source.left c.next_piece.new.src) (g.K.Sink.written c.args.out.now) (g.K.Sink.written c.loop-room.out) (g.K.Sink.written c.write_text.new.out)
    (take c.in_ok-count.count c.next_piece.new.piece) c.loop-room.page c.read.new.page c.loop-room.invariant.came c.in_ok-count.ensures.bytes c.loop-room.invariant.empty c.in_ok-progress.ensures.on c.in_err-write_text.ensures.prefix)

pub loop-room-init : goal.loop-room-init
loop-room-init g c = record {
  came = came_none (g.R.PieceReader.text c.args.reader) (g.R.PieceReader.seen c.args.reader) (g.S.Source.left c.args.src.now) (g.K.Sink.written c.args.out.now);
  silent = silent_none (g.R.PieceReader.text c.args.reader) (g.K.Sink.written c.args.out.now);
  empty = c.new-page.ensures;
  room = c.requires;
  reads = omega arith;
  writes = omega arith;
}

pub loop-room-preserved : goal.loop-room-preserved
loop-room-preserved g c =
    let len : length (take c.in_ok-count.count c.next_piece.new.piece) ≡ c.in_ok-count.count = omega (arith, length-take c.in_ok-count.count c.next_piece.new.piece, c.next_piece.array_long, c.in_ok-count.ensures.bound, c.min.ensures) in
    record {
      came = came_more (g.R.PieceReader.text c.args.reader) (g.R.PieceReader.text c.loop-room.reader) (g.R.PieceReader.text c.read.new.self) (g.R.PieceReader.seen c.args.reader) (g.R.PieceReader.seen c.loop-room.reader) (g.R.PieceReader.seen c.read.new.self)
          (g.S.Source.left c.args.src.now) (g.S.Source.left c.loop-room.src) (g.S.Source.left c.next_piece.new.src) (g.K.Sink.written c.args.out.now) (g.K.Sink.written c.loop-room.out) (g.K.Sink.written c.write_text.new.out)
          (take c.in_ok-count.count c.next_piece.new.piece) c.loop-room.page c.read.new.page c.loop-room.invariant.came c.in_ok-count.ensures.bytes c.loop-room.invariant.empty c.in_ok-progress.ensures.on c.in_ok-write_text.ensures.whole;
      silent = silent_read (g.R.PieceReader.text c.args.reader) (g.R.PieceReader.text c.loop-room.reader) (g.R.PieceReader.text c.read.new.self) (g.R.PieceReader.seen c.loop-room.reader) (g.R.PieceReader.seen c.read.new.self) (g.K.Sink.written c.args.out.now) (g.K.Sink.written c.loop-room.out) (g.K.Sink.written c.write_text.new.out)
          (take c.in_ok-count.count c.next_piece.new.piece) c.loop-room.page c.read.new.page c.loop-room.invariant.silent c.loop-room.invariant.empty c.in_ok-progress.ensures.on c.write_text.ensures.silent;
      empty = c.in_ok-write_text.ensures.empty;
      room = omega (arith, len, c.loop-room.invariant.room, c.in_ok-progress.ensures.room);
      reads = omega (arith, c.loop-room.invariant.reads, c.next_piece.ensures.later);
      writes = omega (arith, c.loop-room.invariant.writes, c.write_text.ensures.later);
    }

pub returns-in-Stops-clause-told : goal.returns-in-Stops-clause-told
returns-in-Stops-clause-told g c =
    let came = came_more (g.R.PieceReader.text c.args.reader) (g.R.PieceReader.text c.loop-room.reader) (g.R.PieceReader.text c.read.new.self) (g.R.PieceReader.seen c.args.reader) (g.R.PieceReader.seen c.loop-room.reader) (g.R.PieceReader.seen c.read.new.self)
    (g.S.Source.left c.args.src.now) (g.S.Source.left c.loop-room.src) (g.S.Source.left c.next_piece.new.src) (g.K.Sink.written c.args.out.now) (g.K.Sink.written c.loop-room.out) (g.K.Sink.written c.write_text.new.out)
    (take c.in_ok-count.count c.next_piece.new.piece) c.loop-room.page c.read.new.page c.loop-room.invariant.came c.in_ok-count.ensures.bytes c.loop-room.invariant.empty c.in_ok-progress.ensures.on c.in_ok-write_text.ensures.whole in
    ok_then c.end_reader-in-Stops.result _ _ (λ found t. settled_told (g.R.PieceReader.text c.args.reader) (g.R.PieceReader.text c.read.new.self) (g.R.PieceReader.seen c.args.reader) (g.R.PieceReader.seen c.read.new.self)
    (g.S.Source.left c.args.src.now) (g.S.Source.left c.next_piece.new.src) (g.K.Sink.written c.args.out.now) (g.K.Sink.written c.write_text.new.out) (g.K.Sink.written c.end_reader-in-Stops.new.out) found
    came (c.in_ok-progress.ensures.settled (ap (λ p. Ok p) c.in-Stops.is)).0 t) c.end_reader-in-Stops.ensures.told

pub returns-in-Stops-clause-prefix : goal.returns-in-Stops-clause-prefix
returns-in-Stops-clause-prefix g c =
    let came = came_more (g.R.PieceReader.text c.args.reader) (g.R.PieceReader.text c.loop-room.reader) (g.R.PieceReader.text c.read.new.self) (g.R.PieceReader.seen c.args.reader) (g.R.PieceReader.seen c.loop-room.reader) (g.R.PieceReader.seen c.read.new.self)
    (g.S.Source.left c.args.src.now) (g.S.Source.left c.loop-room.src) (g.S.Source.left c.next_piece.new.src) (g.K.Sink.written c.args.out.now) (g.K.Sink.written c.loop-room.out) (g.K.Sink.written c.write_text.new.out)
    (take c.in_ok-count.count c.next_piece.new.piece) c.loop-room.page c.read.new.page c.loop-room.invariant.came c.in_ok-count.ensures.bytes c.loop-room.invariant.empty c.in_ok-progress.ensures.on c.in_ok-write_text.ensures.whole in
    err_then c.end_reader-in-Stops.result _ _ (λ p. settled_prefix (g.R.PieceReader.text c.args.reader) (g.R.PieceReader.text c.read.new.self) (g.R.PieceReader.seen c.args.reader) (g.R.PieceReader.seen c.read.new.self)
    (g.S.Source.left c.args.src.now) (g.S.Source.left c.next_piece.new.src) (g.K.Sink.written c.args.out.now) (g.K.Sink.written c.write_text.new.out) (g.K.Sink.written c.end_reader-in-Stops.new.out)
    came (c.in_ok-progress.ensures.settled (ap (λ p. Ok p) c.in-Stops.is)).0 p) c.end_reader-in-Stops.ensures.prefix

pub returns-clause-told : goal.returns-clause-told
returns-clause-told g c =
    let len : length (take c.in_ok-more.more c.next_piece-2.new.piece) ≡ c.in_ok-more.more = omega (arith, length-take c.in_ok-more.more c.next_piece-2.new.piece, c.next_piece-2.array_long, c.in_ok-more.ensures.bound) in
    ok_then c.pass_reader_limit.result _ _ (λ found t. long_told (g.R.PieceReader.text c.args.reader) (g.R.PieceReader.text c.loop-room.reader) (g.R.PieceReader.seen c.args.reader) (g.R.PieceReader.seen c.loop-room.reader)
    (g.S.Source.left c.args.src.now) (g.S.Source.left c.loop-room.src) (g.S.Source.left c.next_piece-2.new.src) (g.K.Sink.written c.args.out.now) (g.K.Sink.written c.loop-room.out) (g.K.Sink.written c.pass_reader_limit.new.out) (take c.in_ok-more.more c.next_piece-2.new.piece) found
    c.loop-room.invariant.came c.in_ok-more.ensures.bytes (omega (arith, len, c.if-more-eq0.false)) t) c.pass_reader_limit.ensures.told

pub returns-clause-prefix : goal.returns-clause-prefix
returns-clause-prefix g c =
    let len : length (take c.in_ok-more.more c.next_piece-2.new.piece) ≡ c.in_ok-more.more = omega (arith, length-take c.in_ok-more.more c.next_piece-2.new.piece, c.next_piece-2.array_long, c.in_ok-more.ensures.bound) in
    err_then c.pass_reader_limit.result _ _ (λ p. long_prefix (g.R.PieceReader.text c.args.reader) (g.R.PieceReader.text c.loop-room.reader) (g.R.PieceReader.seen c.args.reader) (g.R.PieceReader.seen c.loop-room.reader)
    (g.S.Source.left c.args.src.now) (g.S.Source.left c.loop-room.src) (g.S.Source.left c.next_piece-2.new.src) (g.K.Sink.written c.args.out.now) (g.K.Sink.written c.loop-room.out) (g.K.Sink.written c.pass_reader_limit.new.out) (take c.in_ok-more.more c.next_piece-2.new.piece)
    c.loop-room.invariant.came c.in_ok-more.ensures.bytes (omega (arith, len, c.if-more-eq0.false)) p) c.pass_reader_limit.ensures.prefix

pub returns-then-count-eq0-clause-silent : goal.returns-then-count-eq0-clause-silent
returns-then-count-eq0-clause-silent g c = silent_end (g.R.PieceReader.text c.args.reader) (g.R.PieceReader.text c.loop-room.reader) (g.K.Sink.written c.args.out.now) (g.K.Sink.written c.loop-room.out) (g.K.Sink.written c.end_reader.new.out) c.loop-room.invariant.silent
    (λ later. c.end_reader.ensures.silent (later []))

pub returns-then-more-eq0-clause-silent : goal.returns-then-more-eq0-clause-silent
returns-then-more-eq0-clause-silent g c = silent_end (g.R.PieceReader.text c.args.reader) (g.R.PieceReader.text c.loop-room.reader) (g.K.Sink.written c.args.out.now) (g.K.Sink.written c.loop-room.out) (g.K.Sink.written c.end_reader-then-more-eq0.new.out) c.loop-room.invariant.silent
    (λ later. c.end_reader-then-more-eq0.ensures.silent (later []))

pub returns-in-Stops-clause-silent : goal.returns-in-Stops-clause-silent
returns-in-Stops-clause-silent g c =
    silent_end (g.R.PieceReader.text c.args.reader) (g.R.PieceReader.text c.read.new.self) (g.K.Sink.written c.args.out.now) (g.K.Sink.written c.write_text.new.out) (g.K.Sink.written c.end_reader-in-Stops.new.out)
    (silent_read (g.R.PieceReader.text c.args.reader) (g.R.PieceReader.text c.loop-room.reader) (g.R.PieceReader.text c.read.new.self) (g.R.PieceReader.seen c.loop-room.reader) (g.R.PieceReader.seen c.read.new.self) (g.K.Sink.written c.args.out.now) (g.K.Sink.written c.loop-room.out) (g.K.Sink.written c.write_text.new.out)
    (take c.in_ok-count.count c.next_piece.new.piece) c.loop-room.page c.read.new.page c.loop-room.invariant.silent c.loop-room.invariant.empty c.in_ok-progress.ensures.on c.write_text.ensures.silent)
    (λ later. c.end_reader-in-Stops.ensures.silent (later []))

pub returns-clause-silent : goal.returns-clause-silent
returns-clause-silent g c = silent_end (g.R.PieceReader.text c.args.reader) (g.R.PieceReader.text c.loop-room.reader) (g.K.Sink.written c.args.out.now) (g.K.Sink.written c.loop-room.out) (g.K.Sink.written c.pass_reader_limit.new.out) c.loop-room.invariant.silent c.pass_reader_limit.ensures.silent

pub returns-in_err-write_text-clause-silent : goal.returns-in_err-write_text-clause-silent
returns-in_err-write_text-clause-silent g c = λ none.
    (silent_read (g.R.PieceReader.text c.args.reader) (g.R.PieceReader.text c.loop-room.reader) (g.R.PieceReader.text c.read.new.self) (g.R.PieceReader.seen c.loop-room.reader) (g.R.PieceReader.seen c.read.new.self) (g.K.Sink.written c.args.out.now) (g.K.Sink.written c.loop-room.out) (g.K.Sink.written c.write_text.new.out)
    (take c.in_ok-count.count c.next_piece.new.piece) c.loop-room.page c.read.new.page c.loop-room.invariant.silent c.loop-room.invariant.empty c.in_ok-progress.ensures.on c.write_text.ensures.silent none).same

pub returns-in_err-count-clause-silent : goal.returns-in_err-count-clause-silent
returns-in_err-count-clause-silent g c = λ none. (c.loop-room.invariant.silent none).same

pub returns-in_err-progress-clause-silent : goal.returns-in_err-progress-clause-silent
returns-in_err-progress-clause-silent g c = λ none. (c.loop-room.invariant.silent none).same

pub returns-in_err-more-clause-silent : goal.returns-in_err-more-clause-silent
returns-in_err-more-clause-silent g c = λ none. (c.loop-room.invariant.silent none).same
