mod FewDigits
mod KeptDigits
mod RecordScales
