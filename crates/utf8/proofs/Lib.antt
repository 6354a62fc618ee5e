mod Forms
mod Leads
mod Texts
mod Grammar
