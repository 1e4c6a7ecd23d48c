-- An authorisation: who authorises, and what (XDR file Stellar-transaction, `SorobanAuthorizationEntry`).
use Rattle.std.specs.Prelude.{refl}
use Rattle.xdr_spec.specs.Format.{Format, via, pair}
use Rattle.xdr_spec.specs.Laws.{IsFormat}
use Rattle.xdr_spec.proofs.Lemmas.{pair_lawful, via_lawful}
use Rattle.auth_types.specs.Credentials.{credentials_format, credentials_lawful}
use Rattle.auth_types.specs.Invocation.{invocation_format}
use Rattle.auth_types.specs.InvocationLaws.{invocation_lawful}
use Rattle.auth_types.specs.declared.credentials.Credentials.{Credentials}
use Rattle.auth_types.specs.declared.invocation.Invocation.{Invocation}
use Rattle.auth_types.specs.declared.auth_entry.AuthEntry.{AuthEntry}

abbrev pub entry_of : Credentials × Invocation → AuthEntry
entry_of f = record { credentials = f.0; root_invocation = f.1 }

abbrev pub entry_fields : AuthEntry → Credentials × Invocation
entry_fields e = (e.credentials, e.root_invocation)

unfoldable pub auth_entry_format : Format AuthEntry
auth_entry_format = via entry_of entry_fields (pair credentials_format invocation_format)

pub auth_entry_lawful : IsFormat auth_entry_format
unfolding auth_entry_format
auth_entry_lawful =
    via_lawful entry_of entry_fields _ (λ f. refl) (λ e. refl) (pair_lawful _ _ credentials_lawful invocation_lawful)
