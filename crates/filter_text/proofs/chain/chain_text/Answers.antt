use Rattle.std.proofs.Common.{Result, Ok, Err, IfOk}
use Rattle.verilog_text.proofs.OneReading.{one_design}
use Rattle.filter_text.proofs.chain.chain_text.Goals as goal

if_ok : {A E : Type 0} (P Q : A → Type 0) → ((x : A) → P x → Q x) → (r : Result A E) → IfOk r P → IfOk r Q
if_ok P Q f (Ok x) h = f x h
if_ok P Q f (Err e) h = tt

pub returns : goal.returns
returns c =
    if_ok _ _
    (λ text read. record {
      design = read.0;
      reads = read.1;
      only = λ other its. one_design text.items other read.0 its read.1;
      same = read.2;
    })
    c.text_of.result (c.text_of.ensures.same c.requires)
