use Rattle.std.proofs.Common.{◌≡◌, ◌⊎◌, List, inl, inr, refl, subst, sym}
use Rattle.generated_runs.proofs.Laws.{generated_succeeds}
use Rattle.rf_outside.specs.Bytes.{Adds, AddsPrefix}
use Rattle.rf_script.specs.Generated.{generated}
use Rattle.rf_script_types.specs.declared.command.Script.{Script}
use Rattle.script_books.specs.declared.book.Book.{Book}
use Rattle.script_report.specs.Report.{report_of}
use Rattle.script_runner.specs.Outcome.{told_status}
use Rattle.script_runner.specs.Performed.{IsOneThread, IsOneThreadSoFar}
use Rattle.rfnoc_cli.proofs.Generating.{at_each, known_whole, none_so_far, not_performed}
use Rattle.rfnoc_cli.proofs.generate.run_generated.Goals as goal

pub returns-in-Ok-clause-outcome : goal.returns-in-Ok-clause-outcome
returns-in-Ok-clause-outcome g c =
    let done = c.perform_script.ensures in
    let status = c.perform_script.result in
    let books = c.perform_script.new.books in
    let is : c.in-Ok.script ≡ generated c.args.n = c.in-Ok.ensures.generated in
    let old = g.B.RegisterSlots.slots c.args.banks.now in
    let new = g.B.RegisterSlots.slots c.perform_script.new.banks in
    let before = g.K.Sink.written c.args.out.now in
    let after = g.K.Sink.written c.perform_script.new.out in
    let performed : (status ≡ 0) ⊎ (status ≡ 1) ⊎ (status ≡ 4) → IsOneThread (generated c.args.n).commands books.list old new =
    λ s. subst (λ (script : Script). IsOneThread script.commands books.list old new) is (done.performed s) in
    let whole : (status ≡ 0) ⊎ (status ≡ 1) ⊎ (status ≡ 4) → told_status books.list ≡ 0 =
    λ s. generated_succeeds c.args.n books.list old new c.requires.few (performed s) in
    record {
      known = known_whole status (told_status books.list) done.known done.status whole;
      performed = λ s. performed (at_each status s);
      whole = λ s. whole (at_each status s);
      told = λ s. subst (λ (script : Script). Adds before after (report_of script books)) is (done.told (inl s));
      torn = λ s. subst (λ (script : Script). AddsPrefix before after (report_of script books)) is (done.torn s);
      begun = λ s. (done.silent s, subst (λ (script : Script). IsOneThreadSoFar script.commands books.list) is (done.begun s));
    }

pub returns-in-Err-clause-outcome : goal.returns-in-Err-clause-outcome
returns-in-Err-clause-outcome g c = record {
  known = inr (inr refl);
  performed = λ s. not_performed 5 refl s;
  whole = λ s. not_performed 5 refl s;
  told = λ s. absurd cc;
  torn = λ s. absurd cc;
  begun = λ s. (
    refl,
    subst (λ (books : List Book). IsOneThreadSoFar (generated c.args.n).commands books) (sym c.requires.empty)
        (none_so_far (generated c.args.n).commands (g.B.RegisterSlots.slots c.args.banks.now)),
  );
}
