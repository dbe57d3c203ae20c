use Rattle.mig_legacy.proofs.Common.{◌≡◌, Ok, Err, None, Some, rules, sym, ap, ◌∙◌, le32, said_read, said_refused, Truncated, judged_as, first_named, place_causes, kind_of}
use Rattle.mig_legacy.proofs.ChunkTexts.{type_rows, kind_in, number_told, number_refused, place_named}
use Rattle.mig_legacy.proofs.read.ChunksSeen.take_kind.Goals as goal

pub returns-in-Err-clause-read : goal.returns-in-Err-clause-read
unfolding judged_as
returns-in-Err-clause-read g c = λ kept chunks seen.
    let buf = c.take_part.new.buf in
    let none : kind_of (le32 buf 0) ≡ Err c.in-Err.cause = search rules in
    said_refused Truncated _ _ _ 4 (search rules) kind_in tt (λ l. first_named (type_rows chunks l)) _ _ c.in-Err.cause c.in_ok-take_part.ensures.read
    (λ bytes is. ap (λ l. first_named (type_rows chunks l)) is ∙ number_refused chunks (le32 buf 0) c.in-Err.cause none)

pub returns-in-Some-clause-read : goal.returns-in-Some-clause-read
unfolding judged_as
returns-in-Some-clause-read g c = λ kept chunks seen.
    let buf = c.take_part.new.buf in
    let some : kind_of (le32 buf 0) ≡ Ok c.in-Ok.kind = search rules in
    let names : Some c.in-Some.cause ≡ first_named (place_causes chunks c.in-Ok.kind) = c.in-Some.ensures.fault kept chunks seen in
    said_refused Truncated _ _ _ 4 (search rules) kind_in tt (λ l. first_named (type_rows chunks l)) _ _ c.in-Some.cause c.in_ok-take_part.ensures.read
    (λ bytes is. ap (λ l. first_named (type_rows chunks l)) is ∙ place_named chunks (le32 buf 0) c.in-Ok.kind some ∙ sym names)

pub returns-in-None-clause-read : goal.returns-in-None-clause-read
unfolding judged_as
returns-in-None-clause-read g c = λ kept chunks seen.
    let buf = c.take_part.new.buf in
    let some : kind_of (le32 buf 0) ≡ Ok c.in-Ok.kind = search rules in
    let names : None ≡ first_named (place_causes chunks c.in-Ok.kind) = c.in-None.ensures.fault kept chunks seen in
    said_read Truncated _ _ _ 4 (search rules) kind_in tt (λ l. first_named (type_rows chunks l)) _ _ c.in-Ok.kind c.in_ok-take_part.ensures.read
    (λ bytes is. (ap (λ l. first_named (type_rows chunks l)) is ∙ place_named chunks (le32 buf 0) c.in-Ok.kind some ∙ sym names, ap kind_in is ∙ (number_told chunks (le32 buf 0) c.in-Ok.kind some).1))
