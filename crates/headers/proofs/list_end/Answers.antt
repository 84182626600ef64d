-- `headers::list_end` meets its contract: its count, and behind it the run of its items. Assumes nothing.
use native.Mathlib.Omega.{arith}
use Rattle.octets.proofs.Ends.{behind}
use Rattle.headers.proofs.list_end.Goals as goal

pub returns : goal.returns
returns g c = λ end f le h.
    let a = c.args in
    let (is, within) = c.in_ok-count.ensures in
    let v = c.run_end.ensures end f (omega (arith, within.1, le)) h in
    rw (← is) (v.0, behind a.at _ c.run_end.result end within.0 v.1)
