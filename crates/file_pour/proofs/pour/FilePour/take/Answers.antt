use Rattle.std.proofs.Common.{◌≡◌, ◌++◌, length, drop, arith}
use Rattle.std.proofs.lemmas.List.{length-append, length-take, length-drop}
use Rattle.file_pour.proofs.Pouring.{rest_is}
use Rattle.file_pour.proofs.pour.FilePour.take.Goals as goal

pub returns-then-self-lt-LIMIT-clause-poured : goal.returns-then-self-lt-LIMIT-clause-poured
returns-then-self-lt-LIMIT-clause-poured g c known =
    let self = c.args.self.now in
    let piece = c.in_ok-n.ensures in
    let room = c.min-room.result in
    let part = c.piece.new.buf in
    let back = drop room c.args.buf.now in
    let empty : length part ≡ 0 → length (part ++ back) ≡ 0 = λ z. omega (arith, z, piece.len, length-take room c.args.buf.now, length-drop room c.args.buf.now, length-append part back, c.min-room.ensures, c.if-self-lt-LIMIT.true) in
    let rest = rest_is self.name.now part back self.at c.in_ok-n.n piece.within (length (part ++ back)) empty (g.F.Files.contents self.files.now) piece.read known in
    rw piece.same (known, rest.0, rest.1)
