use Rattle.std.proofs.Common.{◌≡◌, false, ◌∙◌, sym, drop, []}
use Rattle.std.proofs.Math.ListN.{drop_of_length-le}
use Rattle.std.specs.Str.{bytes_eq}
use Rattle.mr_values.specs.NamedFiles.{name_of}
use Rattle.mr_values.proofs.FilesByName.{name_at-is, find-drop, get-missing, same_name-bytes_eq, bytes_eq-equal}
use Rattle.mr_values.proofs.named_file.find.Goals as goal

pub returns-then-eq-clause-found : goal.returns-then-eq-clause-found
returns-then-eq-clause-found c = (
  c.loop-at-test.true,
  name_at-is _ _ _ c.loop-at-test.true c.index-files-at.is
      ∙ sym c.as_str.ensures.value ∙ bytes_eq-equal _ _ (sym c.eq.ensures ∙ c.if-eq.true),
)

pub loop-at-preserved : goal.loop-at-preserved
loop-at-preserved c =
    let other : bytes_eq (name_of c.index-files-at.result) c.args.name.now ≡ false = rw (← c.as_str.ensures.value) (sym c.eq.ensures ∙ c.if-eq.false) in
    c.loop-at.invariant ∙ find-drop _ _ _ _ c.loop-at-test.true c.index-files-at.is (same_name-bytes_eq c.args.name.now (name_of c.index-files-at.result) other)

pub returns-clause-missing : goal.returns-clause-missing
returns-clause-missing c = get-missing _ _ (let past : drop c.loop-at.at c.args.files.now ≡ [] = drop_of_length-le _ c.loop-at-test.false in c.loop-at.invariant ∙ rw past)
