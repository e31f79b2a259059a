-- The words that are stored are those of the login, and load the same one.
use Rattle.std.proofs.Common.{◌<◌, ◌^◌, rules}
use Rattle.login_words.proofs.Kept.{login-kept}
use Rattle.login_words.proofs.store.Goals as goal

pub returns : goal.returns
returns c =
    let l = c.args.l in
    let v : l.stage < 2 ^ 8 = search rules in
    let x : l.tsih < 2 ^ 16 = search rules in
    let y : l.cid < 2 ^ 16 = search rules in
    let z : l.gathered < 2 ^ 16 = search rules in
    let a = c.flag.ensures in
    let b = c.flag-2.ensures in
    let e = c.flag-3.ensures in
    (rw (a, b, e), rw (a, b, e) (login-kept l v x y z))
