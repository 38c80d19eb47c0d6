-- What was read are the input's first bytes, for which the same is printed as for all of it, and there is room for the text.
use Rattle.std.proofs.Common.{rules, sym, ◌∙◌, subst, IfOk, ◌≡◌, Ok, ◌≤◌, length}
use Rattle.std.proofs.lemmas.Result.{on_ok_weaker}
use Rattle.std.specs.Io.KnownBytes.{Appends, Consumes, IsAtEnd}
use Rattle.records.specs.Records.{Bytes}
use Rattle.answers.proofs.Stores.{leaves_stands}
use Rattle.lines.specs.Lines.{check_lines}
use Rattle.lines.proofs.Enough.{check_enough}
use Rattle.input.proofs.First.{read_first, of_all}
use Rattle.input.proofs.Mapped.{ok_before, on_ok_mapped}
use Rattle.check_claim.proofs.answer.Goals as goal

pub returns-clause-printed : goal.returns-clause-printed
returns-clause-printed g c =
    let was = ok_before _ c.read_whole.result c.map_err.result c.in_ok-got.got c.map_err.ensures.cases c.in_ok-got.was in
    let bytes = rw was at c.read_whole.ensures.bytes in
    let end = rw was at c.read_whole.ensures.end in
    let first = read_first _ _ _ _ (search rules) bytes end in
    let stands = leaves_stands _ _ _ _ c.check_lines-len.ensures.leaves (search rules) in
    on_ok_mapped _ c.write_all.result _ c.map_err-2.ensures.variant
    (on_ok_weaker c.write_all.result
    (λ written. of_all Bytes check_lines _ (λ xs fine. check_enough xs fine _ (search rules)) _ _ _ _ first (subst (Appends _ _) stands.front written))
    c.write_all.ensures.bytes)
