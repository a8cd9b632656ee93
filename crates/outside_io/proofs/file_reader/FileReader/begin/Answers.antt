use Rattle.std.proofs.Common.{refl, sym}
use Rattle.outside_io.proofs.Named.{none_named, some_named}
use Rattle.outside_io.proofs.file_reader.FileReader.begin.Goals as goal

pub returns-in-Some-clause-begun : goal.returns-in-Some-clause-begun
returns-in-Some-clause-begun c =
    let e = some_named c.as_slice.result.now c.as_bytes.result.now c.in-Some.place (sym c.in-Some.ensures) in
    (_, rw (← c.self.view_is) (rw (c.as_slice.ensures, c.as_bytes.ensures.value) at e), refl)

pub returns-in-None-clause-begun : goal.returns-in-None-clause-begun
returns-in-None-clause-begun c =
    let e = none_named c.as_slice.result.now c.as_bytes.result.now (sym c.in-None.ensures) in
    rw (← c.self.view_is) (rw (c.as_slice.ensures, c.as_bytes.ensures.value) at e)
