use Rattle.auth_parts.proofs.ArgumentBounds.{args_are, args_encodable}
use Rattle.auth_parts.proofs.arguments.check_args.Goals as goal

pub returns-clause-args : goal.returns-clause-args
returns-clause-args c = args_are c.in_ok-args.args.items c.in_ok-contexts.contexts.items c.args.payload c.args.signer.now c.args.root.now c.in_ok-args.ensures c.in_ok-contexts.ensures.contexts

pub returns-clause-encodable : goal.returns-clause-encodable
returns-clause-encodable c =
    args_encodable c.in_ok-args.args.items c.in_ok-contexts.contexts.items c.args.payload c.args.signer.now c.args.root.now
    (args_are c.in_ok-args.args.items c.in_ok-contexts.contexts.items c.args.payload c.args.signer.now c.args.root.now c.in_ok-args.ensures c.in_ok-contexts.ensures.contexts)
    c.in_ok-contexts.ensures.contexts c.in_ok-contexts.ensures.few c.hash_fits.ensures c.requires.signer c.requires.root
