use Rattle.std.proofs.Common.{inr, ◌∙◌}
use Rattle.command_files.proofs.FileSteps.{written}
use Rattle.command_files.proofs.files.write_file.Goals as goal

pub returns-in-Ok-put-clause-told : goal.returns-in-Ok-put-clause-told
returns-in-Ok-put-clause-told g c = λ told.
    let opened = c.in-Ok.ensures.told told in
    let put = c.in-Ok-put.ensures.told (c.in-Ok.ensures.cause.same_kind ∙ told) in
    record {
      answer = written _ _ _ _ _ _ opened.opened.0 opened.opened.1 put.appended.0;
      input = put.input ∙ opened.input;
      place = put.place ∙ opened.place;
    }

pub returns-in-Err-Memory-put-clause-told : goal.returns-in-Err-Memory-put-clause-told
returns-in-Err-Memory-put-clause-told g c = λ told.
    let opened = c.in-Ok.ensures.told told in
    let put = c.in-Err-Memory-put.ensures.told (c.in-Ok.ensures.cause.same_kind ∙ told) in
    record {
      answer = inr (put.refused.0, written _ _ _ _ _ _ opened.opened.0 opened.opened.1 put.refused.1);
      input = put.input ∙ opened.input;
      place = put.place ∙ opened.place;
    }

pub returns-in-Err-Failed-put-clause-told : goal.returns-in-Err-Failed-put-clause-told
returns-in-Err-Failed-put-clause-told g c = λ told.
    let opened = c.in-Ok.ensures.told told in
    let put = c.in-Err-Failed-put.ensures.told (c.in-Ok.ensures.cause.same_kind ∙ told) in
    record {
      answer = (put.refused.0, written _ _ _ _ _ _ opened.opened.0 opened.opened.1 put.refused.1);
      input = put.input ∙ opened.input;
      place = put.place ∙ opened.place;
    }
